-- A row that was read is packed again: into the bytes that stood there.
use mathlib.Core.Path.{◌≡◌, refl, sym, ap, ap₂, ◌∙◌}
use mathlib.Core.List.{List, [], ◌∷◌, ◌++◌, append_assoc}
use Prim.Native.Nat.{ℕ, zero, suc, ◌+◌, ◌*◌, ◌/◌, ◌%◌, ◌<◌, ◌≤◌}
use native.Mathlib.Nat.{mul-suc}
use native.Mathlib.Omega.{arith}
use borrow.Author.Tests.{le-leb}
use lib.Dec.{ltb}
use lib.ListN.{length, get_or, take, drop, length-take, length-drop, take-append-drop}
use Rattle.std.proofs.lemmas.List.{drop-drop, drop_more, drop_all}
use Rattle.lists.specs.Lists.{All, join_of}
use Rattle.lists.proofs.BoolLaws.{cases}
use Rattle.lists.proofs.ListLaws.{all_take, all_get_d}
use Rattle.format.specs.Tags.{tag_of}
use Rattle.format.specs.Bytes.{le16, le32, signed32, tag_at, date_at, id_at}
use Rattle.format.specs.Head.{head_of, head_bytes, country_bytes, previous_bytes, switch_bytes, province_bytes, owner_event_bytes, war_bytes, war_event_bytes, ledger_bytes, point_bytes}
use Rattle.format.specs.Rows.{rows_at, country_at, switch_at, province_at, owner_event_at, war_event_at, ledger_at, point_at, strings_from, strings_end}
use Rattle.format.proofs.PackedLaws.{Reads}
use Rattle.format.proofs.SizeLaws.{strings-end-grows}
use Rattle.packing.proofs.SectionLaws.{front-same}
use Rattle.packing.specs.Bounds.{Byte}
use Rattle.packing.specs.Packing.{two, four, three, word_of, country_packed, tag_packed, switch_packed, province_packed, owner_event_packed, war_packed, war_event_packed, ledger_packed, point_packed, string_packed, head_packed}

abbrev pub Bytes : List ℕ → Type 0
Bytes xs = All Byte xs

-- Bytes of one number after the other.
abbrev window : List ℕ → ℕ → ℕ → List ℕ
window row k zero = []
window row k (suc n) = get_or row k 0 ∷ window row (suc k) n

window-drop : (row : List ℕ) (k n : ℕ) → length row ≡ k + n → drop k row ≡ window row k n
window-drop row k zero e = drop_all k row (omega arith)
window-drop row k (suc n) e =
    let next : k + 1 ≡ suc k = omega arith in
    drop_more row k 0 (omega arith) ∙ ap (λ (l : List ℕ). get_or row k 0 ∷ l) (ap (λ (i : ℕ). drop i row) next ∙ window-drop row (suc k) n (omega arith))

-- A row of so many bytes is these bytes.
whole-row : (w : ℕ) (row : List ℕ) → length row ≡ w → row ≡ window row 0 w
whole-row w row e = window-drop row 0 w (omega arith)

byte-at : (row : List ℕ) → Bytes row → (i : ℕ) → get_or row i 0 < 256
byte-at row q i = all_get_d Byte row i 0 q (omega arith)

-- ## Numbers

two-forth : (a b : ℕ) → Byte a → two (a + b * 256) ≡ a ∷ b ∷ []
two-forth a b h =
    let low : (a + b * 256) % 256 ≡ a = omega arith in
    let high : (a + b * 256) / 256 ≡ b = omega arith in
    rw (low, high) refl

four-forth : (a b c d : ℕ) → Byte a → Byte b → Byte c → four (a + b * 256 + c * 65536 + d * 16777216) ≡ a ∷ b ∷ c ∷ d ∷ []
four-forth a b c d h i j =
    let n : ℕ = a + b * 256 + c * 65536 + d * 16777216 in
    let e0 : n % 256 ≡ a = omega arith in
    let e1 : n / 256 % 256 ≡ b = omega arith in
    let e2 : n / 65536 % 256 ≡ c = omega arith in
    let e3 : n / 16777216 ≡ d = omega arith in
    rw (e0, e1, e2, e3) refl

three-forth : (a b c : ℕ) → Byte b → Byte c → three (tag_of a b c) ≡ a ∷ b ∷ c ∷ []
three-forth a b c h i =
    let w : ℕ = a * 65536 + b * 256 + c in
    let e0 : w / 65536 ≡ a = omega arith in
    let e1 : w / 256 % 256 ≡ b = omega arith in
    let e2 : w % 256 ≡ c = omega arith in
    rw (e0, e1, e2) refl

pub signed-forth : (w : ℕ) → w < 4294967296 → word_of (signed32 w) ≡ w
unfolding signed32
signed-forth w h =
    cases (ltb w 2147483648)
    (λ t. simp t)
    (λ t. simp t (omega arith))

-- ## Rows

pub country-forth : (row : List ℕ) → length row ≡ country_bytes → Bytes row → country_packed (country_at row 0) ≡ row
unfolding country_packed country_at tag_at le16 le32
country-forth row e q =
    let b = byte-at row q in
    let word : word_of (signed32 (get_or row 4 0 + get_or row 5 0 * 256 + get_or row 6 0 * 65536 + get_or row 7 0 * 16777216)) ≡ get_or row 4 0 + get_or row 5 0 * 256 + get_or row 6 0 * 65536 + get_or row 7 0 * 16777216 =
    signed-forth _ (omega (arith, b 4, b 5, b 6, b 7)) in
    sym (whole-row country_bytes row e
    ∙ sym (ap₂ (λ (t l : List ℕ). t ++ (get_or row 3 0 ∷ l)) (three-forth (get_or row 0 0) (get_or row 1 0) (get_or row 2 0) (b 1) (b 2))
    (ap₂ (λ (f l : List ℕ). f ++ l) (ap four word ∙ four-forth (get_or row 4 0) (get_or row 5 0) (get_or row 6 0) (get_or row 7 0) (b 4) (b 5) (b 6))
    (ap₂ (λ (f l : List ℕ). f ++ l) (two-forth (get_or row 8 0) (get_or row 9 0) (b 8)) (two-forth (get_or row 10 0) (get_or row 11 0) (b 10))))))

pub tag-forth : (row : List ℕ) → length row ≡ previous_bytes → Bytes row → tag_packed (tag_at row 0) ≡ row
unfolding tag_packed tag_at
tag-forth row e q =
    let b = byte-at row q in
    three-forth (get_or row 0 0) (get_or row 1 0) (get_or row 2 0) (b 1) (b 2) ∙ sym (whole-row previous_bytes row e)

pub switch-forth : (row : List ℕ) → length row ≡ switch_bytes → Bytes row → switch_packed (switch_at row 0) ≡ row
unfolding switch_packed switch_at date_at tag_at le32
switch-forth row e q =
    let b = byte-at row q in
    ap₂ (λ (f l : List ℕ). f ++ l) (four-forth (get_or row 0 0) (get_or row 1 0) (get_or row 2 0) (get_or row 3 0) (b 0) (b 1) (b 2))
    (three-forth (get_or row 4 0) (get_or row 5 0) (get_or row 6 0) (b 5) (b 6)) ∙ sym (whole-row switch_bytes row e)

pub province-forth : (row : List ℕ) → length row ≡ province_bytes → Bytes row → province_packed (province_at row 0) ≡ row
unfolding province_packed province_at id_at tag_at le16
province-forth row e q =
    let b = byte-at row q in
    ap₂ (λ (f l : List ℕ). f ++ l) (two-forth (get_or row 0 0) (get_or row 1 0) (b 0))
    (ap₂ (λ (f l : List ℕ). f ++ l) (three-forth (get_or row 2 0) (get_or row 3 0) (get_or row 4 0) (b 3) (b 4))
    (two-forth (get_or row 5 0) (get_or row 6 0) (b 5))) ∙ sym (whole-row province_bytes row e)

pub owner-event-forth : (row : List ℕ) → length row ≡ owner_event_bytes → Bytes row → owner_event_packed (owner_event_at row 0) ≡ row
unfolding owner_event_packed owner_event_at date_at tag_at le32
owner-event-forth row e q =
    let b = byte-at row q in
    ap₂ (λ (f l : List ℕ). f ++ l) (four-forth (get_or row 0 0) (get_or row 1 0) (get_or row 2 0) (get_or row 3 0) (b 0) (b 1) (b 2))
    (three-forth (get_or row 4 0) (get_or row 5 0) (get_or row 6 0) (b 5) (b 6)) ∙ sym (whole-row owner_event_bytes row e)

pub war-forth : (row : List ℕ) → length row ≡ war_bytes → Bytes row → war_packed (le16 row 0) ≡ row
unfolding war_packed le16
war-forth row e q = let b = byte-at row q in two-forth (get_or row 0 0) (get_or row 1 0) (b 0) ∙ sym (whole-row war_bytes row e)

pub war-event-forth : (row : List ℕ) → length row ≡ war_event_bytes → Bytes row → war_event_packed (war_event_at row 0) ≡ row
unfolding war_event_packed war_event_at date_at tag_at le32
war-event-forth row e q =
    let b = byte-at row q in
    ap₂ (λ (f l : List ℕ). f ++ (get_or row 4 0 ∷ l)) (four-forth (get_or row 0 0) (get_or row 1 0) (get_or row 2 0) (get_or row 3 0) (b 0) (b 1) (b 2))
    (three-forth (get_or row 5 0) (get_or row 6 0) (get_or row 7 0) (b 6) (b 7)) ∙ sym (whole-row war_event_bytes row e)

pub ledger-forth : (row : List ℕ) → length row ≡ ledger_bytes → Bytes row → ledger_packed (ledger_at row 0) ≡ row
unfolding ledger_packed ledger_at tag_at le16
ledger-forth row e q =
    let b = byte-at row q in
    ap₂ (λ (f l : List ℕ). f ++ l) (three-forth (get_or row 0 0) (get_or row 1 0) (get_or row 2 0) (b 1) (b 2))
    (two-forth (get_or row 3 0) (get_or row 4 0) (b 3)) ∙ sym (whole-row ledger_bytes row e)

pub point-forth : (row : List ℕ) → length row ≡ point_bytes → Bytes row → point_packed (point_at row 0) ≡ row
unfolding point_packed point_at le16 le32
point-forth row e q =
    let b = byte-at row q in
    ap₂ (λ (f l : List ℕ). f ++ l) (two-forth (get_or row 0 0) (get_or row 1 0) (b 0))
    (four-forth (get_or row 2 0) (get_or row 3 0) (get_or row 4 0) (get_or row 5 0) (b 2) (b 3) (b 4)) ∙ sym (whole-row point_bytes row e)

-- ## Sections

module _ {A : Type 0} (w : ℕ) (read : List ℕ → ℕ → A) (reads : Reads w read) (put : A → List ℕ)
    (forth : (row : List ℕ) → length row ≡ w → Bytes row → put (read row 0) ≡ row) where
  -- The rows of a section are packed into its bytes.
  pub rows-forth : (xs : List ℕ) (at n : ℕ) → at + w * n ≤ length xs → Bytes xs
      → join_of put (rows_at (read xs) w xs at n) ++ drop (at + w * n) xs ≡ drop at xs
  unfolding rows_at
  rows-forth xs at zero h q = let e : at + w * 0 ≡ at = omega arith in ap (λ (i : ℕ). drop i xs) e
  rows-forth xs at (suc n) h q =
      let whole : at + w ≤ length xs = omega (arith, h, mul-suc w n) in
      let row : List ℕ = take w (drop at xs) in
      let split : row ++ drop w (drop at xs) ≡ drop at xs = take-append-drop w (drop at xs) in
      let long : length row ≡ w = omega (arith, length-take w (drop at xs), length-drop at xs) in
      let good : Bytes row = (all_take Byte w (drop at xs) (all_take Byte at xs q).1).0 in
      let here : put (read xs at) ≡ row = ap put (reads xs at row 0 (front-same w xs at row (drop w (drop at xs)) long (sym split))) ∙ forth row long good in
      let end : at + w * suc n ≡ at + w + w * n = omega (arith, mul-suc w n) in
      simp (le-leb _ _ whole)
      (append_assoc (put (read xs at)) (join_of put (rows_at (read xs) w xs (at + w) n)) (drop (at + w * suc n) xs)
      ∙ ap₂ (λ (f l : List ℕ). f ++ l) here (ap (λ (i : ℕ). join_of put (rows_at (read xs) w xs (at + w) n) ++ drop i xs) end ∙ rows-forth xs (at + w) n (omega (arith, h, mul-suc w n)) q ∙ sym (drop-drop w at xs))
      ∙ split)

-- ## Strings

pub strings-forth : (xs : List ℕ) (at n : ℕ) → strings_end xs at n ≤ length xs
    → join_of string_packed (strings_from xs at n) ++ drop (strings_end xs at n) xs ≡ drop at xs
unfolding strings_from strings_end string_packed
strings-forth xs at zero h = refl
strings-forth xs at (suc n) h =
    let k : ℕ = get_or xs at 0 in
    let next : ℕ = at + 1 + k in
    let whole : next ≤ length xs = omega (arith, h, strings-end-grows xs next n) in
    let text : List ℕ = take k (drop (at + 1) xs) in
    let long : length text ≡ k = omega (arith, length-take k (drop (at + 1) xs), length-drop (at + 1) xs) in
    let behind : text ++ drop next xs ≡ drop (at + 1) xs =
    ap (λ (l : List ℕ). text ++ l) (sym (drop-drop k (at + 1) xs)) ∙ take-append-drop k (drop (at + 1) xs) in
    simp (le-leb _ _ whole)
    (append_assoc (length text ∷ text) (join_of string_packed (strings_from xs next n)) (drop (strings_end xs next n) xs)
    ∙ ap (λ (l : List ℕ). (length text ∷ text) ++ l) (strings-forth xs next n h)
    ∙ ap₂ ◌∷◌ long behind
    ∙ sym (drop_more xs at 0 (omega arith)))

-- ## The head

joined : {f f' l l' : List ℕ} → f ≡ f' → l ≡ l' → f ++ l ≡ f' ++ l'
joined p q = ap₂ (λ (a b : List ℕ). a ++ b) p q

pub head-forth : (row : List ℕ) → length row ≡ head_bytes → Bytes row → get_or row 0 0 ≡ 65 → get_or row 1 0 ≡ 84 → get_or row 2 0 ≡ 76
    → head_packed (head_of row) ≡ row
unfolding head_packed head_of date_at le16 le32
head-forth row e q a t l =
    let b = byte-at row q in
    let two_at : (i j : ℕ) → two (get_or row i 0 + get_or row j 0 * 256) ≡ get_or row i 0 ∷ get_or row j 0 ∷ [] = λ i j. two-forth (get_or row i 0) (get_or row j 0) (b i) in
    let four_at : (i j k m : ℕ) → four (get_or row i 0 + get_or row j 0 * 256 + get_or row k 0 * 65536 + get_or row m 0 * 16777216) ≡ get_or row i 0 ∷ get_or row j 0 ∷ get_or row k 0 ∷ get_or row m 0 ∷ [] =
    λ i j k m. four-forth (get_or row i 0) (get_or row j 0) (get_or row k 0) (get_or row m 0) (b i) (b j) (b k) in
    let rest : List ℕ = window row 3 41 in
    let numbers : head_packed (head_of row) ≡ 65 ∷ 84 ∷ 76 ∷ rest =
    ap (λ (l : List ℕ). 65 ∷ 84 ∷ 76 ∷ l)
    (joined (two_at 3 4) (ap (λ (l : List ℕ). get_or row 5 0 ∷ l)
    (joined (four_at 6 7 8 9)
    (joined (four_at 10 11 12 13)
    (joined (two_at 14 15)
    (joined (two_at 16 17)
    (joined (four_at 18 19 20 21)
    (joined (four_at 22 23 24 25)
    (joined (four_at 26 27 28 29) (joined (two_at 30 31) (joined (two_at 32 33) (joined (four_at 34 35 36 37) (joined (two_at 38 39) (four_at 40 41 42 43)))))))))))))) in
    let letters : get_or row 0 0 ∷ get_or row 1 0 ∷ get_or row 2 0 ∷ rest ≡ 65 ∷ 84 ∷ 76 ∷ rest =
    ap₂ ◌∷◌ a (ap₂ ◌∷◌ t (ap (λ (n : ℕ). n ∷ rest) l)) in
    numbers ∙ sym letters ∙ sym (whole-row head_bytes row e)
