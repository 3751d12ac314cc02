-- What was written is read again: nations from their rows, bookings from theirs.
use mathlib.Core.Path.{◌≡◌, refl, sym, ap, ap₂, ◌∙◌}
use mathlib.Core.List.{List, [], ◌∷◌, ◌++◌, map, append_assoc}
use Prim.Native.Nat.{ℕ, suc, ◌+◌, ◌*◌, ◌/◌}
use native.Mathlib.Omega.{arith}
use lib.ListN.{length, take, drop, length-append, length-map}
use lib.Seq.{take_at, drop_at}
use Rattle.lists.specs.Lists.{join_of}
use Rattle.lists.proofs.ListLaws.{map_back, map-append, map-then, length-join, rows_join}
use Rattle.format.specs.declared.values.EntryKind.{EntryKind}
use Rattle.format.specs.declared.values.Entry.{Entry}
use Rattle.format.specs.declared.values.NationRow.{NationRow}
use Rattle.format.specs.declared.values.OwnerChange.{OwnerChange}
use Rattle.format.specs.declared.values.Booking.{Booking}
use Rattle.format.specs.declared.values.EntryKind.TheVariants.{TagSwitch, Appeared, Annexed}
use Rattle.rules.specs.Chronicle.{Nation}
use Rattle.rules.specs.NationRows.{nation_width, nation_row_words, nation_row_of, nation_rows_from, EntryRow, entry_width, entry_row_words, entry_row_of, kind_word, target_word, entry_row, kind_of, entry_of, nation_words, entry_words, nation_rows_in, entry_rows_in, nation_at, nations_in}
use Rattle.rules.specs.Changes.{change_width, change_words, change_rows}
use Rattle.rules.specs.Bookings.{booking_width, booking_words, booking_at, booking_rows, bookings_in}

-- The entries of all nations, one behind the other.
abbrev pub all_entries : List Nation → List Entry
all_entries ns = join_of (λ n. n.entries) ns

-- ## Lengths

pub length-rows_from : (first : ℕ) (ns : List Nation) → length (nation_rows_from first ns) ≡ length ns
unfolding nation_rows_from
length-rows_from first [] = refl
length-rows_from first (n ∷ ns) = ap suc (length-rows_from (first + length n.entries) ns)

pub length-nation_words : (ns : List Nation) → length (nation_words ns) ≡ nation_width * length ns
unfolding nation_words
length-nation_words ns =
    length-join nation_width nation_row_words (λ r. refl) (nation_rows_from 0 ns) ∙ ap (λ (n : ℕ). nation_width * n) (length-rows_from 0 ns)

pub length-entry_words : (ns : List Nation) → length (entry_words ns) ≡ entry_width * length (all_entries ns)
unfolding entry_words
length-entry_words ns = length-join entry_width (λ e. entry_row_words (entry_row e)) (λ e. refl) (all_entries ns)

pub length-change_rows : (xs : List OwnerChange) → length (change_rows xs) ≡ change_width * length xs
unfolding change_rows
length-change_rows xs = length-join change_width change_words (λ x. refl) xs

pub length-booking_rows : (bs : List Booking) → length (booking_rows bs) ≡ booking_width * length bs
unfolding booking_rows
length-booking_rows bs = length-join booking_width booking_words (λ b. refl) bs

-- ## Rows

pub nation-rows : (ns : List Nation) → nation_rows_in (nation_words ns) ≡ nation_rows_from 0 ns
unfolding nation_rows_in nation_words
nation-rows ns =
    let rs : List NationRow = nation_rows_from 0 ns in
    let e : length (join_of nation_row_words rs) / nation_width ≡ length rs = omega (arith, length-join nation_width nation_row_words (λ r. refl) rs) in
    simp e
    (ap (map nation_row_of) (rows_join nation_width nation_row_words (λ r. refl) rs) ∙ map_back nation_row_words nation_row_of (λ r. refl) rs)

pub entry-rows : (ns : List Nation) → entry_rows_in (entry_words ns) ≡ map entry_row (all_entries ns)
unfolding entry_rows_in entry_words
entry-rows ns =
    let f : Entry → List ℕ = λ e. entry_row_words (entry_row e) in
    let es : List Entry = all_entries ns in
    let e : length (join_of f es) / entry_width ≡ length es = omega (arith, length-join entry_width f (λ x. refl) es) in
    simp e (ap (map entry_row_of) (rows_join entry_width f (λ x. refl) es) ∙ map-then f entry_row_of es)

pub bookings-in : (bs : List Booking) → bookings_in (booking_rows bs) ≡ bs
unfolding bookings_in booking_rows
bookings-in bs =
    let e : length (join_of booking_words bs) / booking_width ≡ length bs = omega (arith, length-join booking_width booking_words (λ b. refl) bs) in
    simp e (ap (map booking_at) (rows_join booking_width booking_words (λ b. refl) bs) ∙ map_back booking_words booking_at (λ b. refl) bs)

-- ## Nations

kind-back : (k : EntryKind) → kind_of (kind_word k) (target_word k) ≡ k
kind-back (TagSwitch t) = refl
kind-back Appeared = refl
kind-back Annexed = refl

entry-back : (e : Entry) → entry_of (entry_row e) ≡ e
entry-back e = ap (λ (k : EntryKind). record { date = e.date; kind = k }) (kind-back e.kind)

-- Rows whose entries begin behind others' are told by those rows.
told : (front : List EntryRow) (first : ℕ) (ns : List Nation) → length front ≡ first
    → map (nation_at (front ++ map entry_row (all_entries ns))) (nation_rows_from first ns) ≡ ns
unfolding nation_rows_from
told front first [] h = refl
told front first (n ∷ ns) h =
    let own : List EntryRow = map entry_row n.entries in
    let rest : List EntryRow = map entry_row (all_entries ns) in
    let len : length own ≡ length n.entries = length-map n.entries entry_row in
    let all : front ++ map entry_row (n.entries ++ all_entries ns) ≡ front ++ (own ++ rest) =
    ap (λ (l : List EntryRow). front ++ l) (map-append entry_row n.entries (all_entries ns)) in
    let here : map entry_of (take (length n.entries) (drop first (front ++ (own ++ rest)))) ≡ n.entries =
    ap (λ (l : List EntryRow). map entry_of (take (length n.entries) l)) (drop_at front (own ++ rest) first h)
    ∙ (ap (map entry_of) (take_at own rest (length n.entries) len) ∙ map_back entry_row entry_of entry-back n.entries) in
    let behind = told (front ++ own) (first + length n.entries) ns (simp length-append (omega arith)) in
    ap (λ (l : List EntryRow). map (nation_at l) (nation_rows_from first (n ∷ ns))) all
    ∙ ap₂ (λ (es : List Entry) (l : List Nation). record { initial = n.initial; latest = n.latest; stored = n.stored; entries = es } ∷ l)
    here
    (ap (λ (l : List EntryRow). map (nation_at l) (nation_rows_from (first + length n.entries) ns)) (sym (append_assoc front own rest)) ∙ behind)

pub read-written : (ns : List Nation) → nations_in (nation_words ns) (entry_words ns) ≡ ns
unfolding nations_in
read-written ns = simp (nation-rows, entry-rows) (told [] 0 ns refl)
