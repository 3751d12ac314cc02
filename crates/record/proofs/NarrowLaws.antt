-- Ids are read from two bytes and tags from three, so that those of the provinces left are small, whatever the bytes are.
use mathlib.Core.Path.{◌≡◌, refl, sym, ap, ◌∙◌}
use mathlib.Core.Bool.{Bool, true}
use mathlib.Core.List.{List, [], ◌∷◌}
use Prim.Native.Nat.{ℕ, zero, suc, ◌+◌, ◌<◌}
use native.Mathlib.Omega.{arith}
use borrow.Author.Tests.{lt-ltb, ltb-true}
use lib.Dec.{leb}
use lib.ListN.{length, drop}
use Rattle.lists.specs.Lists.{All, all_of}
use Rattle.lists.proofs.BoolLaws.{cases, and_left, and_right}
use Rattle.lists.proofs.ListLaws.{all_take}
use Rattle.format.specs.declared.rows.OwnerEvent.{OwnerEvent}
use Rattle.format.specs.Bytes.{byte_at, le16, tag_at, id_at}
use Rattle.format.specs.declared.packed.PackedProvince.{PackedProvince}
use Rattle.format.specs.Rows.{rows_at, province_at, owner_event_at}
use Rattle.format.specs.Campaign.{Province, group_provinces}
use Rattle.format.specs.Head.{province_bytes, owner_event_bytes}
use Rattle.record.specs.declared.provinces.Provinces.{Provinces}
use Rattle.record.specs.Narrow.{narrow_id, narrow_tag}
use Rattle.record.specs.Cursors.{owner_events_left, provinces_left}

-- ## A test that each row passes

module _ {A : Type 0} (p : A → Bool) where
  -- those behind the first
  pub passed_rest : (xs : List A) (x : A) (rest : List A) → all_of p xs ≡ true → xs ≡ x ∷ rest → all_of p rest ≡ true
  passed_rest xs x rest h e = and_right (p x) (all_of p rest) (sym (ap (all_of p) e) ∙ h)

  -- and those behind so many
  behind : (n : ℕ) (xs : List A) → all_of p xs ≡ true → all_of p (drop n xs) ≡ true
  behind zero xs h = h
  behind (suc n) [] h = h
  behind (suc n) (x ∷ xs) h = behind n xs (and_right (p x) (all_of p xs) h)

  pub passed_behind : (n : ℕ) (xs ys : List A) → all_of p xs ≡ true → ys ≡ drop n xs → all_of p ys ≡ true
  passed_behind n xs ys h e = ap (all_of p) e ∙ behind n xs h

  -- whatever their number
  passed_rows : (row : ℕ → A) (width : ℕ) (xs : List ℕ) → ((at : ℕ) → p (row at) ≡ true) → (at n : ℕ) → all_of p (rows_at row width xs at n) ≡ true
  unfolding rows_at
  passed_rows row width xs f at zero = refl
  passed_rows row width xs f at (suc n) =
      cases (leb (at + width) (length xs)) (λ e. simp (e, f at, passed_rows row width xs f (at + width) n)) (λ e. simp e)

-- ## Rows of bytes

module _ (xs : List ℕ) (bytes : (i : ℕ) → byte_at xs i < 256) where
  pub ids_narrow : (at n : ℕ) → all_of narrow_id (rows_at (province_at xs) province_bytes xs at n) ≡ true
  unfolding province_at id_at le16
  ids_narrow = passed_rows narrow_id (province_at xs) province_bytes xs (λ at. lt-ltb _ _ (omega (arith, bytes at, bytes (at + 1))))

  pub tags_narrow : (at n : ℕ) → all_of narrow_tag (rows_at (owner_event_at xs) owner_event_bytes xs at n) ≡ true
  unfolding owner_event_at tag_at
  tags_narrow = passed_rows narrow_tag (owner_event_at xs) owner_event_bytes xs (λ at. lt-ltb _ _ (omega (arith, bytes (at + 4), bytes (at + 4 + 1), bytes (at + 4 + 2))))

pub ruleset narrow = (passed_rest, passed_behind)

-- ## The provinces left

-- The tag of an event, and the id of a province with those of its events.
pub record NarrowEvent (e : OwnerEvent) : Type 0 where
  pub tag : e.tag.0 < 16777216

pub record NarrowProvince (p : Province) : Type 0 where
  pub id : p.id.0 < 65536
  pub events : All NarrowEvent p.events

narrow-events : (es : List OwnerEvent) → all_of narrow_tag es ≡ true → All NarrowEvent es
narrow-events [] h = tt
narrow-events (e ∷ es) h =
    (record { tag = ltb-true _ _ (and_left (narrow_tag e) (all_of narrow_tag es) h) }, narrow-events es (and_right (narrow_tag e) (all_of narrow_tag es) h))

narrow-provinces : (rs : List PackedProvince) (es : List OwnerEvent) → all_of narrow_id rs ≡ true → All NarrowEvent es → All NarrowProvince (group_provinces rs es)
unfolding group_provinces
narrow-provinces [] es n m = tt
narrow-provinces (r ∷ rs) es n m =
    let parts = all_take NarrowEvent r.events es m in
    (record { id = ltb-true _ _ (and_left (narrow_id r) (all_of narrow_id rs) n); events = parts.0 }, narrow-provinces rs _ (and_right (narrow_id r) (all_of narrow_id rs) n) parts.1)

pub provinces-narrow : (c : Provinces) → All NarrowProvince (provinces_left c)
provinces-narrow c = narrow-provinces _ (owner_events_left c.events) c.narrow_ids (narrow-events (owner_events_left c.events) c.narrow_tags)
