-- Rows as they stand in the bytes, each cut out by itself: what a row of its width tells is what the rules read at its offset.
use mathlib.Core.Path.{◌≡◌, refl, ap, ap₂, ◌∙◌}
use mathlib.Core.List.{List, ◌∷◌, map}
use Prim.Native.Nat.{ℕ, zero, suc, ◌+◌, ◌*◌, ◌<◌, ◌≤◌}
use native.Mathlib.Nat.{add-zero, zero-add, add_assoc, mul-suc}
use native.Mathlib.Omega.{arith}
use borrow.Author.Tests.{le-leb}
use lib.ListN.{length, take, drop}
use Rattle.std.proofs.lemmas.List.{get_or-take, get_or-drop, drop-drop}
use Rattle.std.specs.Simd.{first_chunks}
use Rattle.format.specs.Bytes.{byte_at, le16, le32, tag_at, date_at, id_at}
use Rattle.format.specs.Head.{head_of, country_bytes, switch_bytes, province_bytes, owner_event_bytes, war_event_bytes, ledger_bytes, point_bytes, head_bytes}
use Rattle.format.specs.Rows.{rows_at, country_at, switch_at, province_at, owner_event_at, war_event_at, ledger_at, point_at}

-- The same w bytes at two places.
pub record Same (w : ℕ) (xs : List ℕ) (a : ℕ) (ys : List ℕ) (b : ℕ) : Type 0 where
  pub byte : (k : ℕ) → k < w → byte_at xs (a + k) ≡ byte_at ys (b + k)

-- A reader of w bytes tells the same where the same w bytes stand.
abbrev pub Reads : {A : Type 0} → ℕ → (List ℕ → ℕ → A) → Type 0
Reads w read = (xs : List ℕ) (a : ℕ) (ys : List ℕ) (b : ℕ) → Same w xs a ys b → read xs a ≡ read ys b

module _ {w : ℕ} {xs : List ℕ} {a : ℕ} {ys : List ℕ} {b : ℕ} (s : Same w xs a ys b) where
  -- the first byte of them, the first so many, and a part of them
  first : 0 < w → byte_at xs a ≡ byte_at ys b
  first h = simp add-zero at (s.byte 0 h)

  front : (n : ℕ) → n ≤ w → Same n xs a ys b
  front n h = record { byte = λ k l. s.byte k (omega arith) }

  part : (at n : ℕ) → at + n ≤ w → Same n xs (a + at) ys (b + at)
  part at n h =
      record { byte = λ k l. rw (add_assoc a at k, add_assoc b at k) (s.byte (at + k) (omega arith)) }

-- The readers of the rules, each with as many bytes as its rows have.
pub reads-le16 : Reads 2 le16
unfolding le16
reads-le16 xs a ys b s = rw (first s (omega arith), s.byte 1 (omega arith))

reads-le32 : Reads 4 le32
unfolding le32
reads-le32 xs a ys b s = rw (first s (omega arith), s.byte 1 (omega arith), s.byte 2 (omega arith), s.byte 3 (omega arith))

pub reads-tag : Reads 3 tag_at
unfolding tag_at
reads-tag xs a ys b s = rw (first s (omega arith), s.byte 1 (omega arith), s.byte 2 (omega arith))

reads-date : Reads 4 date_at
unfolding date_at
reads-date xs a ys b s = rw (reads-le32 xs a ys b s)

pub reads-country : Reads country_bytes country_at
unfolding country_at
reads-country xs a ys b s =
    rw (
      reads-tag xs a ys b (front s 3 (omega arith)),
      s.byte 3 (omega arith),
      reads-le32 xs (a + 4) ys (b + 4) (part s 4 4 (omega arith)),
      reads-le16 xs (a + 8) ys (b + 8) (part s 8 2 (omega arith)),
      reads-le16 xs (a + 10) ys (b + 10) (part s 10 2 (omega arith)),
    )

pub reads-switch : Reads switch_bytes switch_at
unfolding switch_at
reads-switch xs a ys b s = rw (reads-date xs a ys b (front s 4 (omega arith)), reads-tag xs (a + 4) ys (b + 4) (part s 4 3 (omega arith)))

pub reads-province : Reads province_bytes province_at
unfolding province_at id_at
reads-province xs a ys b s =
    rw (
      reads-le16 xs a ys b (front s 2 (omega arith)),
      reads-tag xs (a + 2) ys (b + 2) (part s 2 3 (omega arith)),
      reads-le16 xs (a + 5) ys (b + 5) (part s 5 2 (omega arith)),
    )

pub reads-owner-event : Reads owner_event_bytes owner_event_at
unfolding owner_event_at
reads-owner-event xs a ys b s = rw (reads-date xs a ys b (front s 4 (omega arith)), reads-tag xs (a + 4) ys (b + 4) (part s 4 3 (omega arith)))

pub reads-war-event : Reads war_event_bytes war_event_at
unfolding war_event_at
reads-war-event xs a ys b s =
    rw (
      reads-date xs a ys b (front s 4 (omega arith)),
      s.byte 4 (omega arith),
      reads-tag xs (a + 5) ys (b + 5) (part s 5 3 (omega arith)),
    )

pub reads-ledger : Reads ledger_bytes ledger_at
unfolding ledger_at
reads-ledger xs a ys b s = rw (reads-tag xs a ys b (front s 3 (omega arith)), reads-le16 xs (a + 3) ys (b + 3) (part s 3 2 (omega arith)))

pub reads-point : Reads point_bytes point_at
unfolding point_at
reads-point xs a ys b s = rw (reads-le16 xs a ys b (front s 2 (omega arith)), reads-le32 xs (a + 2) ys (b + 2) (part s 2 4 (omega arith)))

-- A head is read from its first 44 bytes, zeros for those that are not there.
pub head-same : (xs ys : List ℕ) → Same head_bytes xs 0 ys 0 → head_of xs ≡ head_of ys
unfolding head_of
head-same xs ys s =
    rw (
      reads-le16 xs 3 ys 3 (part s 3 2 (omega arith)),
      s.byte 5 (omega arith),
      reads-date xs 6 ys 6 (part s 6 4 (omega arith)),
      reads-date xs 10 ys 10 (part s 10 4 (omega arith)),
      reads-le16 xs 14 ys 14 (part s 14 2 (omega arith)),
      reads-le16 xs 16 ys 16 (part s 16 2 (omega arith)),
      reads-le32 xs 18 ys 18 (part s 18 4 (omega arith)),
      reads-le32 xs 22 ys 22 (part s 22 4 (omega arith)),
      reads-le32 xs 26 ys 26 (part s 26 4 (omega arith)),
      reads-le16 xs 30 ys 30 (part s 30 2 (omega arith)),
      reads-le16 xs 32 ys 32 (part s 32 2 (omega arith)),
      reads-le32 xs 34 ys 34 (part s 34 4 (omega arith)),
      reads-le16 xs 38 ys 38 (part s 38 2 (omega arith)),
      reads-le32 xs 40 ys 40 (part s 40 4 (omega arith)),
    )

-- A row cut out has the bytes that stand at its offset.
cut-same : (w : ℕ) (xs : List ℕ) (at : ℕ) → Same w (take w (drop at xs)) 0 xs at
cut-same w xs at =
    record { byte = λ k h. simp zero-add (get_or-take w (drop at xs) k 0 h ∙ get_or-drop at xs k 0) }

-- So many rows, cut out one behind the other and read, are the rows of the rules.
pub rows_cut : {A : Type 0} (read : List ℕ → ℕ → A) (w : ℕ) → Reads w read → (xs : List ℕ) (at n : ℕ) → at + w * n ≤ length xs
    → map (λ row. read row 0) (first_chunks w n (drop at xs)) ≡ rows_at (read xs) w xs at n
unfolding rows_at
rows_cut read w reads xs at zero h = refl
rows_cut read w reads xs at (suc n) h =
    let whole : at + w ≤ length xs = omega (arith, h, mul-suc w n) in
    let next : at + w + w * n ≤ length xs = omega (arith, h, mul-suc w n) in
    let behind : drop w (drop at xs) ≡ drop (at + w) xs = drop-drop w at xs in
    simp (le-leb _ _ whole)
    (ap₂ ◌∷◌
    (reads (take w (drop at xs)) 0 xs at (cut-same w xs at))
    (ap (λ l. map (λ row. read row 0) (first_chunks w n l)) behind ∙ rows_cut read w reads xs (at + w) n next))
