-- The targets of switches, one country after the other: a country's initial and each switch's target are told by one function.
use Rattle.std.specs.Prelude as code
use Rattle.std.specs.Prelude.{Some, None, MatchOption}
use Rattle.std.specs.Option.{unwrap_or}
use mathlib.Core.Path.{◌≡◌, refl, sym, ap, subst, ◌∙◌}
use mathlib.Core.List.{List, [], ◌∷◌, ◌++◌, map}
use Prim.Native.Nat.{ℕ, suc, ◌+◌, ◌≤◌, ◌<◌}
use native.Mathlib.Omega.{arith}
use lib.ListN.{length, get_or, drop, length-append}
use lib.Seq.{get_or-drop}
use Rattle.lists.specs.Lists.{All, first_or}
use mathlib.Core.Bool.{true, false}
use Rattle.lists.proofs.BoolLaws.{clash}
use Rattle.lists.proofs.ListLaws.{all_map, all_get_d, all_join}
use Rattle.lists.proofs.FillLaws.{Filling, filling-more}
use Rattle.format.specs.declared.tag.CountryTag.{CountryTag}
use Rattle.format.specs.declared.rows.Switch.{Switch}
use Rattle.format.specs.Campaign.{Country, Campaign}
use Rattle.format.specs.Sound.{GoodTag, GoodCountry, Sound}
use Rattle.rules.specs.Nations.{initial_from, last_target, switch_chain}
use Rattle.nation_tables.specs.Layout.{word_span}
use Rattle.nation_tables.specs.Countries.{FilledFrom}
use Rattle.nation_tables.specs.Switches.{own_placed, all_placed, chain_words, own_targets, target_words}
use Rattle.nation_tables.proofs.tables.KeyedLaws.{tag_small}
use Rattle.nation_tables.proofs.tables.PlacedLaws.{length-own}

-- ## The first tag, by what there is

pub initial-switched : {ss rest : List Switch} {x : Switch} (ps : List CountryTag) (t : CountryTag) → ss ≡ x ∷ rest → x.from ≡ initial_from ss ps t
unfolding initial_from
initial-switched ps t e = rw e

pub initial-first : {ss : List Switch} (ps rest : List CountryTag) (t : CountryTag) → ss ≡ [] → (r : code.Option CountryTag) → MatchOption r ((ps ≡ []) × (rest ≡ [])) (λ p. ps ≡ p ∷ rest) → {f : CountryTag} → f ≡ unwrap_or r t → f ≡ initial_from ss ps t
unfolding initial_from
initial-first ps rest t e None q u = u ∙ rw (e, q.0)
initial-first ps rest t e (Some p) q u = u ∙ rw (e, q)

-- ## The words of targets

-- Where the previous tag of the number of switches left is the last target, the first tag of those left is the chain's target.
pub target-chained : {word : ℕ} {r : CountryTag} (ps : List CountryTag) (t end : CountryTag) (ss : List Switch) → word ≡ r.0 → r ≡ initial_from ss ps t
    → get_or ps (length ss) t ≡ end → word ≡ (first_or end (map (λ y. y.from) ss)).0
unfolding initial_from
target-chained ps t end ss w f e = w ∙ ap (λ (x : CountryTag). x.0) (f ∙ chained ps ss e)
  where
    chained : (ps : List CountryTag) (ss : List Switch) → get_or ps (length ss) t ≡ end → initial_from ss ps t ≡ first_or end (map (λ y. y.from) ss)
    chained [] [] e = e
    chained (p ∷ ps) [] e = e
    chained ps (s ∷ ss) e = refl

-- The first word of a chain and the others.
pub targets_next : {ss rest : List Switch} {x : Switch} (end : CountryTag) → ss ≡ x ∷ rest
    → chain_words end ss ≡ (first_or end (map (λ y. y.from) rest)).0 ∷ chain_words end rest
unfolding switch_chain
targets_next end e = rw e

-- A switch that was told is the first of those that were left; where none was told, none was left.
pub told-some : (ss rest : List Switch) (r : code.Option Switch) → MatchOption r ((ss ≡ []) × (rest ≡ [])) (λ x. ss ≡ x ∷ rest) → code.is_some r ≡ true
    → (x : Switch) × (ss ≡ x ∷ rest)
told-some ss rest (Some x) m h = (x, m)
told-some ss rest None m h = clash false h refl

pub told-none : (ss rest : List Switch) (r : code.Option Switch) → MatchOption r ((ss ≡ []) × (rest ≡ [])) (λ x. ss ≡ x ∷ rest) → code.is_some r ≡ false → ss ≡ []
told-none ss rest (Some x) m h = clash true refl h
told-none ss rest None m h = m.0

-- No switch has no word.
pub chain-end : {ss : List Switch} (end : CountryTag) → ss ≡ [] → chain_words end ss ≡ []
unfolding switch_chain
chain-end end e = rw e

-- One previous tag is passed for each switch.
pub tag-passed : (ps rest : List CountryTag) (t : CountryTag) (n m : ℕ) → rest ≡ drop 1 ps → n ≡ m + 1 → get_or rest m t ≡ get_or ps n t
tag-passed ps rest t n m e l =
    let sum : 1 + m ≡ n = omega arith in
    ap (λ (l : List CountryTag). get_or l m t) e ∙ get_or-drop 1 ps m t ∙ ap (λ (i : ℕ). get_or ps i t) sum

-- A step over the previous tags passes the first, if there is one.
pub tag-first : (ps rest : List CountryTag) (r : code.Option CountryTag) → MatchOption r ((ps ≡ []) × (rest ≡ [])) (λ p. ps ≡ p ∷ rest) → rest ≡ drop 1 ps
tag-first ps rest None q = q.1 ∙ sym (ap (drop 1) q.0)
tag-first ps rest (Some p) q = sym (ap (drop 1) q)

-- A word for each switch of a chain.
pub length-chain : (end : CountryTag) (ss : List Switch) → length (chain_words end ss) ≡ length ss
unfolding switch_chain
length-chain end [] = refl
length-chain end (x ∷ ss) = ap suc (length-chain end ss)

-- As many words as switches.
pub length-target-words : (row k : ℕ) (ks : List Country) → length (target_words ks) ≡ length (all_placed row k ks)
unfolding all_placed
length-target-words row k [] = refl
length-target-words row k (x ∷ ks) =
    omega (
      arith,
      length-append (own_targets x) (target_words ks),
      length-append (own_placed row k x.switches) (all_placed (suc row) (k + length x.switches) ks),
      length-chain (last_target x) x.switches,
      length-own row k x.switches,
      length-target-words (suc row) (k + length x.switches) ks,
    )

-- The words of the countries that are left still have to be written, from k on.
module _ (all left : List Country) (before : List ℕ) (k : ℕ) (now : List ℕ) (f : Filling (target_words all) (target_words left) before k now)
    (x : Country) (rest : List Country) (e : left ≡ x ∷ rest) where
  -- What is left are the next country's words and those of the others.
  targets-split : target_words left ≡ own_targets x ++ target_words rest
  targets-split = rw e

  -- Those of the next country find room.
  pub targets-here : k + length x.switches ≤ length now
  targets-here =
      let l = f.fits in
      let n = f.long in
      let size = ap length targets-split ∙ length-append (own_targets x) (target_words rest) in
      omega (arith, size, length-chain (last_target x) x.switches)

  -- Behind them come those of the others.
  pub targets-more : (next : ℕ) (after : List ℕ) → FilledFrom (own_targets x) k next now after
      → Filling (target_words all) (target_words rest) before next after
  targets-more next after w =
      subst (λ (n : ℕ). Filling (target_words all) (target_words rest) before n after) (sym w.behind)
      (filling-more _ _ _ _ _ f (own_targets x) (target_words rest) after targets-split w.filled)

-- The words of a chain are below what its last target and its tags are below.
chain-small : (bound : ℕ) (end : CountryTag) (ss : List Switch) → end.0 < bound → All (λ s. s.from.0 < bound) ss
    → All (λ w. w < bound) (chain_words end ss)
unfolding switch_chain
chain-small bound end [] h q = tt
chain-small bound end (x ∷ []) h q = (h, tt)
chain-small bound end (x ∷ y ∷ ss) h q = (q.1.0, chain-small bound end (y ∷ ss) h q.1)

-- The targets of a good country are words of 32 bits.
country-targets : (k : Country) → GoodCountry k → All (λ w. w < word_span) (own_targets k)
country-targets k q =
    let last : GoodTag (last_target k) = all_get_d GoodTag k.previous (length k.switches) k.tag q.previous q.tag in
    let small : (t : CountryTag) → GoodTag t → t.0 < word_span = λ t g. omega (arith, tag_small t g) in
    chain-small word_span (last_target k) k.switches (small (last_target k) last)
    (all_map (λ s g. small s.from g.from) k.switches q.switches)

-- The targets of a sound campaign are words of 32 bits.
pub targets-small : (c : Campaign) → Sound c → All (λ w. w < word_span) (target_words c.countries)
targets-small c q = all_join (λ w. w < word_span) own_targets country-targets c.countries q.countries
