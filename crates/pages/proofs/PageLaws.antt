-- The text as it is written is the page, for a well-shaped chronicle and a selection that is tags.
use mathlib.Core.Path.{◌≡◌, refl, sym, ap, ap₂, subst, ◌∙◌}
use mathlib.Core.Bool.{Bool, true, false, cond, ◌&&◌}
use mathlib.Core.List.{List, [], ◌∷◌, ◌++◌, map}
use mathlib.Core.Option
use mathlib.Core.Option.{Option, none, some, none-ne-some, some-injective}
use Prim.Native.Nat.{ℕ, ◌+◌, ◌/◌, ◌%◌, ◌<◌}
use native.Mathlib.Nat.{mod-eq_of_lt}
use native.Mathlib.Omega.{arith}
use lib.Dec.{eqb}
use lib.ListN.{length, take, get_or, length-map}
use lib.Seq.{get_or-take}
use Rattle.lists.specs.Lists.{All, join_of, first_that, numbers_from}
use Rattle.lists.specs.Text.{ascii}
use Rattle.lists.proofs.BoolLaws.{and_left, and_right}
use Rattle.lists.proofs.ListLaws.{length-numbers, numbers-at, map-then}
use Rattle.format.specs.declared.tag.CountryTag.{CountryTag}
use Rattle.format.specs.Tags.{is_tag, created, same_tag, tag_of}
use Rattle.format.proofs.TagLaws.{tag-bytes}
use Rattle.format.specs.declared.values.Entry.{Entry}
use Rattle.format.specs.declared.values.NationRow.{NationRow}
use Rattle.rules.specs.Chronicle.{Nation}
use Rattle.rules.specs.NationRows.{nation_rows_in, nations_in, tags_shaped, well_shaped}
use Rattle.rules.specs.Page.{one_more, selection_of, decimal, tag_text, line, is_living, tag_line, page_text}
use Rattle.rows.specs.RowAt.{nation_row_at, entry_at, entries_at, nation_numbered, tags_stored}
use Rattle.rows.proofs.NumberedLaws.{nation-tags, nations-numbered}
use Rattle.search.specs.Places.{place_from}
use Rattle.search.proofs.PlaceLaws.{first-placed, place_inside}
use Rattle.pages.specs.Lines.{tag_field, status_field, row_line, absent_line, heading}
use Rattle.pages.specs.Stored.{line_at, line_of, lines_of}
use Rattle.pages.specs.Texts.{lines_text}

-- ## Tags that were read

created-tag : (s : List ℕ) (t : CountryTag) → created s ≡ some t → is_tag t ≡ true
unfolding created
created-tag s t e = go (eqb (length s) 3) (is_tag u) refl e
  where
    u : CountryTag
    u = tag_of (get_or s 0 0) (get_or s 1 0) (get_or s 2 0)

    go : (a b : Bool) → is_tag u ≡ b → cond (a && b) (some u) none ≡ some t → is_tag t ≡ true
    go true true h k = ap is_tag (sym (some-injective u t k)) ∙ h
    go true false h k = absurd (none-ne-some t k)
    go false b h k = absurd (none-ne-some t k)

abbrev Tagged : List CountryTag → Type 0
Tagged ts = All (λ t. is_tag t ≡ true) ts

one-tagged : (o : Option CountryTag) (feed : Bool) (rest : Option (List CountryTag)) (tags : List CountryTag)
    → ((t : CountryTag) → o ≡ some t → is_tag t ≡ true) → ((ts : List CountryTag) → rest ≡ some ts → Tagged ts)
    → one_more o feed rest ≡ some tags → Tagged tags
one-tagged none feed rest tags f g e = absurd (none-ne-some tags e)
one-tagged (some t) false rest tags f g e = absurd (none-ne-some tags e)
one-tagged (some t) true none tags f g e = absurd (none-ne-some tags e)
one-tagged (some t) true (some ts) tags f g e = subst Tagged (some-injective (t ∷ ts) tags e) (f t refl, g ts refl)

tags-tagged : (xs : List ℕ) (tags : List CountryTag) → selection_of xs ≡ some tags → Tagged tags
unfolding selection_of
tags-tagged [] tags e = subst Tagged (some-injective [] tags e) tt
tags-tagged (a ∷ []) tags e = absurd (none-ne-some tags e)
tags-tagged (a ∷ b ∷ []) tags e = absurd (none-ne-some tags e)
tags-tagged (a ∷ b ∷ c ∷ []) tags e = absurd (none-ne-some tags e)
tags-tagged (a ∷ b ∷ c ∷ d ∷ rest) tags e =
    one-tagged (created (a ∷ b ∷ c ∷ [])) (eqb d 10) (selection_of rest) tags (created-tag (a ∷ b ∷ c ∷ [])) (tags-tagged rest) e

-- ## Lines

tag-field : (t : CountryTag) → is_tag t ≡ true → tag_field t ≡ tag_text t ++ (32 ∷ [])
tag-field t h =
    let b = (tag-bytes t h).first.most in
    let e : t.0 / 65536 % 256 ≡ t.0 / 65536 = mod-eq_of_lt (omega (arith, b)) in
    ap (λ (x : ℕ). x ∷ t.0 / 256 % 256 ∷ t.0 % 256 ∷ 32 ∷ []) e

status : (b : Bool) → status_field b ≡ 32 ∷ (cond b (ascii "living") (ascii "annexed") ++ (10 ∷ []))
status true = refl
status false = refl

fields-line : (s i l : CountryTag) (n : ℕ) (b : Bool) → is_tag s ≡ true → is_tag i ≡ true → is_tag l ≡ true
    → tag_field s ++ (tag_field i ++ (tag_field l ++ (decimal n ++ status_field b)))
    ≡ line (tag_text s ∷ tag_text i ∷ tag_text l ∷ decimal n ∷ cond b (ascii "living") (ascii "annexed") ∷ [])
unfolding line
fields-line s i l n b hs hi hl =
    ap (λ (f : List ℕ). f ++ (tag_field i ++ (tag_field l ++ (decimal n ++ status_field b)))) (tag-field s hs)
    ∙ ap (λ (f : List ℕ). tag_text s ++ (32 ∷ (f ++ (tag_field l ++ (decimal n ++ status_field b))))) (tag-field i hi)
    ∙ ap (λ (f : List ℕ). tag_text s ++ (32 ∷ (tag_text i ++ (32 ∷ (f ++ (decimal n ++ status_field b)))))) (tag-field l hl)
    ∙ ap (λ (f : List ℕ). tag_text s ++ (32 ∷ (tag_text i ++ (32 ∷ (tag_text l ++ (32 ∷ (decimal n ++ f))))))) (status b)

absent-line : (t : CountryTag) → is_tag t ≡ true → absent_line t ≡ tag_line t none
unfolding tag_line line
absent-line t h = ap (λ (f : List ℕ). f ++ ascii "absent\n") (tag-field t h)

row-line : (t : CountryTag) (r : NationRow) (ents : List Entry) (b : Bool) → tags_shaped r ≡ true → length ents ≡ r.count
    → b ≡ is_living (record { initial = r.initial; latest = r.latest; stored = r.stored; entries = ents })
    → row_line r b ≡ tag_line t (some (record { initial = r.initial; latest = r.latest; stored = r.stored; entries = ents }))
unfolding tag_line
row-line t r ents b h l e =
    let n : Nation = record { initial = r.initial; latest = r.latest; stored = r.stored; entries = ents } in
    let two = and_left (is_tag r.initial && is_tag r.latest) (is_tag r.stored) h in
    ap₂ (λ (c : ℕ) (s : Bool). tag_field r.stored ++ (tag_field r.initial ++ (tag_field r.latest ++ (decimal c ++ status_field s)))) (sym l) e
    ∙ fields-line r.stored r.initial r.latest (length ents) (is_living n) (and_right (is_tag r.initial && is_tag r.latest) (is_tag r.stored) h)
    (and_left (is_tag r.initial) (is_tag r.latest) two) (and_right (is_tag r.initial) (is_tag r.latest) two)

-- ## The page

module _ (ws es : List ℕ) (shaped : well_shaped ws es ≡ true) (cells : List Bool)
    (living : take (length (nation_rows_in ws)) cells ≡ map is_living (nations_in ws es)) where
  abbrev rows : ℕ
  rows = length (nation_rows_in ws)

  abbrev none-known : Nation
  none-known = nation_numbered ws es 0

  tags-same : map (λ n. n.stored) (nations_in ws es) ≡ tags_stored ws
  tags-same = ap (map (λ (n : Nation). n.stored)) (nations-numbered ws es shaped) ∙ map-then (nation_numbered ws es) (λ (n : Nation). n.stored) (numbers_from 0 rows)

  length-tags : length (tags_stored ws) ≡ rows
  length-tags = length-map (numbers_from 0 rows) (λ (i : ℕ). (nation_row_at ws i).stored) ∙ length-numbers 0 rows

  module _ (i : ℕ) (h : i < rows) where
    nation-here : get_or (nations_in ws es) i none-known ≡ nation_numbered ws es i
    nation-here =
        let z : 0 + i ≡ i = omega arith in
        ap (λ (ns : List Nation). get_or ns i none-known) (nations-numbered ws es shaped)
        ∙ numbers-at (nation_numbered ws es) none-known 0 rows i h
        ∙ ap (nation_numbered ws es) z

    cell-here : get_or cells i false ≡ is_living (nation_numbered ws es i)
    cell-here =
        let z : 0 + i ≡ i = omega arith in
        sym (get_or-take rows cells i false h)
        ∙ ap (λ (l : List Bool). get_or l i false) (living ∙ ap (map is_living) (nations-numbered ws es shaped) ∙ map-then (nation_numbered ws es) is_living (numbers_from 0 rows))
        ∙ numbers-at (λ (j : ℕ). is_living (nation_numbered ws es j)) false 0 rows i h
        ∙ ap (λ (j : ℕ). is_living (nation_numbered ws es j)) z

    count-here : length (entries_at es (nation_row_at ws i).first (nation_row_at ws i).count) ≡ (nation_row_at ws i).count
    count-here =
        length-map (numbers_from (nation_row_at ws i).first (nation_row_at ws i).count) (entry_at es)
        ∙ length-numbers (nation_row_at ws i).first (nation_row_at ws i).count

    row-here : (t : CountryTag) → row_line (nation_row_at ws i) (get_or cells i false) ≡ tag_line t (some (get_or (nations_in ws es) i none-known))
    row-here t =
        row-line t (nation_row_at ws i) (entries_at es (nation_row_at ws i).first (nation_row_at ws i).count) (get_or cells i false) (nation-tags ws es shaped i h) count-here cell-here
        ∙ ap (λ (n : Nation). tag_line t (some n)) (sym nation-here)

  abbrev found : CountryTag → Option Nation
  found t = first_that (λ n. same_tag n.stored t) (nations_in ws es)

  found-placed : (t : CountryTag) → found t ≡ Option.map (λ i. get_or (nations_in ws es) i none-known) (place_from 0 t (tags_stored ws))
  found-placed t =
      first-placed (λ (n : Nation). n.stored) t none-known (nations_in ws es)
      ∙ ap (λ (ts : List CountryTag). Option.map (λ i. get_or (nations_in ws es) i none-known) (place_from 0 t ts)) tags-same

  line-at : (t : CountryTag) → is_tag t ≡ true → (o : Option ℕ) → place_from 0 t (tags_stored ws) ≡ o
      → line_at ws cells t o ≡ tag_line t (Option.map (λ i. get_or (nations_in ws es) i none-known) o)
  line-at t h none e = absent-line t h
  line-at t h (some i) e = row-here i (omega (arith, place_inside t (tags_stored ws) i e, length-tags)) t

  line-found : (t : CountryTag) → is_tag t ≡ true → line_of ws cells t ≡ tag_line t (found t)
  unfolding line_of
  line-found t h = line-at t h (place_from 0 t (tags_stored ws)) refl ∙ ap (tag_line t) (sym (found-placed t))

  lines-found : (ts : List CountryTag) → Tagged ts → lines_of ws cells ts ≡ join_of (λ t. tag_line t (found t)) ts
  lines-found [] h = refl
  lines-found (t ∷ ts) h = ap₂ ◌++◌ (line-found t h.0) (lines-found ts h.1)

  -- The text by rows and cells is the page of the nations that they tell.
  pub text-page : (selection : List ℕ) (tags : List CountryTag) → selection_of selection ≡ some tags → lines_text ws cells tags ≡ page_text (nations_in ws es) tags
  unfolding page_text line
  text-page selection tags e = ap (λ (l : List ℕ). heading (length tags) ++ l) (lines-found tags (tags-tagged selection tags e))
