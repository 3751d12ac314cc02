-- The slots' rows, one province after the other: where no id stands twice, each slot ends with its owner's row, and the others with that of `---`.
use mathlib.Core.Path.{◌≡◌, refl, sym, ap, fun_ext, ◌∙◌}
use mathlib.Core.Bool.{true, false}
use mathlib.Core.List.{List, [], ◌∷◌, map}
use mathlib.Core.Option.{Option}
use Prim.Native.Nat.{ℕ, suc, ◌+◌, ◌≤◌, ◌<◌}
use native.Mathlib.Omega.{arith}
use borrow.Author.Tests.{eqb-true, eqb-false, ltb-true, ne_eqb}
use lib.Dec.{eqb, ltb}
use lib.ListN.{length, get_or, set, replicate, length-set, length-map, length-replicate, get_or-replicate}
use lib.Seq.{ext_get_or, get_or-set_same, get_or-set_other}
use Rattle.lists.specs.Lists.{keep, any_of, all_of, twice, first_or, numbers_from}
use Rattle.lists.proofs.BoolLaws.{cases, both, neither}
use Rattle.lists.proofs.ElementLaws.{first-map}
use Rattle.lists.proofs.ListLaws.{all_map, any_none, all-unmap, keep-none, map-then, length-numbers, numbers-at}
use Rattle.format.specs.declared.tag.CountryTag.{CountryTag}
use Rattle.format.specs.Tags.{NONE}
use Rattle.format.specs.Campaign.{Campaign, Province}
use Rattle.format.specs.Rows.{same_id}
use Rattle.rules.specs.Nations.{maps_to, slots_of, start_tag, start_holder, start_holders}
use Rattle.nation_tables.specs.Layout.{key_rows}
use Rattle.nation_tables.specs.Countries.{tag_at_row, initial_words, row_keys, initial_number}
use Rattle.nation_tables.specs.Starting.{owner_in, slot_rows, put_owners, Slotted, Started}
use Rattle.nation_tables.proofs.tables.MappedLaws.{initial-mapped}

-- ## One province more

pub ids_next : (left rest : List Province) (p : Province) (size : ℕ) → left ≡ p ∷ rest → all_of (λ q. ltb q.id.0 size) left ≡ true
    → (p.id.0 < size) × (all_of (λ q. ltb q.id.0 size) rest ≡ true)
ids_next left rest p size e h =
    let g = both (ltb p.id.0 size) (all_of (λ q. ltb q.id.0 size) rest) (rw e at h) in
    (ltb-true p.id.0 size g.0, g.1)

module _ (f : CountryTag → ℕ) where
  pub put_next : (left rest : List Province) (p : Province) (rows : List ℕ) (at row : ℕ) → left ≡ p ∷ rest → at ≡ p.id.0 → row ≡ f p.owner
      → put_owners f rest (set rows at row) ≡ put_owners f left rows
  unfolding put_owners
  put_next left rest p rows at row e a r = rw (e, a, r)

  pub put-end : (left : List Province) (rows : List ℕ) → left ≡ [] → rows ≡ put_owners f left rows
  unfolding put_owners
  put-end left rows e = rw e

  -- ## All provinces

  length-put : (ps : List Province) (rows : List ℕ) → length (put_owners f ps rows) ≡ length rows
  unfolding put_owners
  length-put [] rows = refl
  length-put (p ∷ ps) rows = length-put ps (set rows p.id.0 (f p.owner)) ∙ length-set rows p.id.0 (f p.owner)

  -- what a slot holds in the end
  abbrev owned : ℕ → List Province → List ℕ
  owned i ps = map (λ p. f p.owner) (keep (λ p. same_id p.id (record { 0 = i })) ps)

  none_owned : (i : ℕ) (ps : List Province) → any_of (eqb i) (map (λ p. p.id.0) ps) ≡ false → owned i ps ≡ []
  none_owned i ps h =
      ap (map (λ p. f p.owner))
      (keep-none (λ p. same_id p.id (record { 0 = i })) ps
      (all_map (λ p g. ne_eqb p.id.0 i (λ e. eqb-false i p.id.0 g (sym e))) ps
      (all-unmap (λ n. eqb i n ≡ false) (λ p. p.id.0) ps (any_none (eqb i) (map (λ p. p.id.0) ps) h))))

  at-put : (ps : List Province) (rows : List ℕ) (i : ℕ) → twice (map (λ p. p.id.0) ps) ≡ false → i < length rows
      → get_or (put_owners f ps rows) i 0 ≡ first_or (get_or rows i 0) (owned i ps)
  unfolding put_owners
  at-put [] rows i o h = refl
  at-put (p ∷ ps) rows i o h =
      let once = neither (any_of (eqb p.id.0) (map (λ q. q.id.0) ps)) (twice (map (λ q. q.id.0) ps)) o in
      let rest = at-put ps (set rows p.id.0 (f p.owner)) i once.1 (omega (arith, length-set rows p.id.0 (f p.owner))) in
      cases (eqb p.id.0 i)
      (λ g. let e = eqb-true p.id.0 i g in
      rest
      ∙ ap (first_or (get_or (set rows p.id.0 (f p.owner)) i 0)) (none_owned i ps (rw e at once.0))
      ∙ ap (λ (n : ℕ). get_or (set rows n (f p.owner)) i 0) e
      ∙ get_or-set_same rows i (f p.owner) 0 h
      ∙ simp g)
      (λ g. rest ∙ simp (g, get_or-set_other rows p.id.0 i (f p.owner) 0 (λ e. eqb-false p.id.0 i g (sym e))))

-- ## The start

module _ (keys : List ℕ) (ps : List Province) (slots : ℕ) (q : Slotted slots ps) where
  length-slot-rows : length (slot_rows keys ps slots) ≡ slots
  length-slot-rows = length-map (numbers_from 0 slots) (λ n. initial_number keys (owner_in ps (record { 0 = n }))) ∙ length-numbers 0 slots

  all-put : put_owners (initial_number keys) ps (replicate slots (initial_number keys NONE)) ≡ slot_rows keys ps slots
  all-put =
      let f = initial_number keys in
      let start = replicate slots (f NONE) in
      let size : length start ≡ slots = length-replicate slots (f NONE) in
      ext_get_or 0 (put_owners f ps start) (slot_rows keys ps slots) (length-put f ps start ∙ size ∙ sym length-slot-rows)
      (λ i l. let l' : i < slots = omega (arith, length-put f ps start, size) in
      let kept = keep (λ p. same_id p.id (record { 0 = i })) ps in
      let sum : 0 + i ≡ i = omega arith in
      at-put f ps start i q.once (omega arith)
      ∙ ap (λ (n : ℕ). first_or n (map (λ p. f p.owner) kept)) (get_or-replicate slots i (f NONE) 0 l')
      ∙ ap (first_or (f NONE)) (sym (map-then (λ p. p.owner) f kept))
      ∙ sym (first-map f NONE (map (λ p. p.owner) kept))
      ∙ sym (numbers-at (λ n. f (owner_in ps (record { 0 = n }))) 0 0 slots i l' ∙ ap (λ (n : ℕ). f (owner_in ps (record { 0 = n }))) sum))

  start-holders : (c : Campaign) → c.provinces ≡ ps → slots ≡ suc (length ps) → length c.countries ≤ key_rows
      → keys ≡ row_keys (initial_words c.countries) → map (tag_at_row c.countries) (slot_rows keys ps slots) ≡ start_holders c
  unfolding start_holders slots_of start_holder start_tag
  start-holders c e n few k =
      let ks = c.countries in
      let held : (i : ℕ) → tag_at_row ks (initial_number keys (owner_in ps (record { 0 = i }))) ≡ start_holder c (record { 0 = i }) =
      λ i.
      sym ((initial-mapped keys (owner_in ps (record { 0 = i }))).holder ks few k)
      ∙ ap (λ (l : List Province). maps_to ks (owner_in l (record { 0 = i }))) (sym e) in
      map-then (λ i. initial_number keys (owner_in ps (record { 0 = i }))) (tag_at_row ks) (numbers_from 0 slots)
      ∙ ap (λ (g : ℕ → Option CountryTag). map g (numbers_from 0 slots)) (fun_ext held)
      ∙ ap (λ (m : ℕ). map (λ i. start_holder c (record { 0 = i })) (numbers_from 0 m)) (n ∙ ap (λ (l : List Province). suc (length l)) (sym e))
      ∙ sym (map-then (λ i. record { 0 = i }) (start_holder c) (numbers_from 0 (suc (length c.provinces))))

  pub started : (rows after : List ℕ) (row : ℕ) → row ≡ initial_number keys NONE → rows ≡ replicate slots row → after ≡ put_owners (initial_number keys) ps rows → Started keys ps slots after
  started rows after row r e w =
      record { cells = w ∙ ap (put_owners (initial_number keys) ps) (e ∙ ap (replicate slots) r) ∙ all-put; holders = start-holders }
