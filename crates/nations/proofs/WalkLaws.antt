-- A walk over a country's two chains tells its lives. Changes that are not the country's are passed over without a word; at one that is,
-- the loss by itself and then the gain by itself tell what the change tells.
use mathlib.Core.Path.{◌≡◌, refl, sym, ap, ap₂, ◌∙◌}
use mathlib.Core.Bool.{Bool, true, false, cond, ◌&&◌, ◌||◌}
use mathlib.Core.List.{List, [], ◌∷◌, ◌++◌, append_assoc}
use Prim.Native.Nat.{ℕ, zero, suc, ◌+◌, ◌-◌, ◌*◌, ◌≤◌, ◌<◌}
use native.Mathlib.Omega.{arith}
use borrow.Author.Tests.{ltb-false, eq-eqb, ne_eqb}
use lib.Dec.{ltb, eqb}
use lib.ListN.{length, get_or, drop, length-append, get_or-map}
use lib.Seq.{drop-cons, drop-length}
use Rattle.lists.proofs.BoolLaws.{neither}
use Rattle.format.specs.declared.date.Eu4Date.{Eu4Date}
use Rattle.format.specs.Dates.{earlier}
use Rattle.format.specs.declared.values.Entry.{Entry}
use Rattle.format.specs.declared.values.EntryKind.TheVariants.{Appeared, Annexed}
use Rattle.rules.specs.Nations.{turn_entries, turn_count}
use Rattle.nation_tables.specs.Layout.{no_change}
use Rattle.nation_tables.specs.declared.layout.LossGain.{LossGain}
use Rattle.nation_tables.specs.Turning.{Lived, before, key_date, losses, gains}
use Rattle.nations.specs.declared.country_lives.Lives.{Lives}
use Rattle.nations.specs.CountryLives.{walk_in, lives_left}
use Rattle.nations.specs.Walks.{Walk, past_change, lived_from, lived_left, life_entry, Chained, ahead}

-- The walk after a loss, and after a gain.
abbrev pub after_loss : List ℕ → Walk → Walk
after_loss olds c = record { lose = get_or olds c.lose 0; gain = c.gain; held = c.held - 1 }

abbrev pub after_gain : List ℕ → Walk → Walk
after_gain news c = record { lose = c.lose; gain = get_or news c.gain 0; held = c.held + 1 }

before-twice : (es fs : List Entry) (l : Lived) → before (es ++ fs) l ≡ before es (before fs l)
before-twice es fs l = ap (λ (gs : List Entry). record { entries = gs; held = l.held }) (append_assoc es fs l.entries)

module _ (start : Eu4Date) (olds news : List ℕ) where
  -- ## One change

  -- What change k tells, if it takes a slot (a) and gives one (b), with what is left behind it.
  abbrev stepped : ℕ → ℕ → List ℕ → Walk → Bool → Bool → Lived
  stepped k x xs c a b =
      before (turn_entries start (key_date x) a b c.held)
      (lived_from start olds news (suc k) xs
      (record {
        lose = cond a (get_or olds k 0) c.lose;
        gain = cond b (get_or news k 0) c.gain;
        held = turn_count a b c.held;
      }))

  step : (k x : ℕ) (xs : List ℕ) (c : Walk) (a b : Bool) → eqb c.lose k ≡ a → eqb c.gain k ≡ b
      → lived_from start olds news k (x ∷ xs) c ≡ stepped k x xs c a b
  unfolding lived_from
  step k x xs c a b p q = ap₂ (stepped k x xs c) p q

  step-none : (k x : ℕ) (xs : List ℕ) (c : Walk) → stepped k x xs c false false ≡ lived_from start olds news (suc k) xs c
  unfolding turn_entries turn_count
  step-none k x xs c = refl

  -- A loss, and a gain if there is one.
  step-loss : (k x : ℕ) (xs : List ℕ) (c : Walk) (b : Bool)
      → stepped k x xs c true b
      ≡ before (cond (eqb (c.held - 1) 0) (life_entry (key_date x) true ∷ []) [])
      (stepped k x xs (record { lose = get_or olds k 0; gain = c.gain; held = c.held - 1 }) false b)
  unfolding turn_entries turn_count
  step-loss k x xs c b =
      before-twice (cond (eqb (c.held - 1) 0) (life_entry (key_date x) true ∷ []) [])
      (cond (b && eqb (c.held - 1) 0 && earlier start (key_date x)) (life_entry (key_date x) false ∷ []) []) _

  step-gain : (k x : ℕ) (xs : List ℕ) (c : Walk)
      → stepped k x xs c false true
      ≡ before (cond (eqb c.held 0 && earlier start (key_date x)) (life_entry (key_date x) false ∷ []) [])
      (lived_from start olds news (suc k) xs (record { lose = c.lose; gain = get_or news k 0; held = c.held + 1 }))
  unfolding turn_entries turn_count
  step-gain k x xs c = refl

  -- ## Changes that are not the country's

  passed : (i k : ℕ) (keys : List ℕ) (c : Walk) → i ≤ length keys → k + i ≤ c.lose → k + i ≤ c.gain
      → lived_from start olds news k keys c ≡ lived_from start olds news (k + i) (drop i keys) c
  passed zero k keys c h l g = let e : k + 0 ≡ k = omega arith in simp e
  passed (suc i) k [] c h l g = absurd (omega arith)
  passed (suc i) k (x ∷ xs) c h l g =
      let e : suc k + i ≡ k + suc i = omega arith in
      step k x xs c false false (ne_eqb c.lose k (λ w. omega arith)) (ne_eqb c.gain k (λ w. omega arith))
      ∙ (step-none k x xs c
      ∙ (passed i (suc k) xs c (omega arith) (omega arith) (omega arith) ∙ ap (λ (j : ℕ). lived_from start olds news j (drop i xs) c) e))

  module _ (keys : List ℕ) where
    -- From the country's next change on.
    from : (k : ℕ) (c : Walk) → k < length keys → k ≤ c.lose → k ≤ c.gain
        → lived_from start olds news 0 keys c ≡ lived_from start olds news k (get_or keys k 0 ∷ drop (suc k) keys) c
    from k c h l g =
        let e : 0 + k ≡ k = omega arith in
        passed k 0 keys c (omega arith) (omega arith) (omega arith)
        ∙ ap₂ (λ (j : ℕ) (xs : List ℕ). lived_from start olds news j xs c) e (drop-cons keys k 0 h)

    pub walk_end : (c : Walk) → length keys ≤ c.lose → length keys ≤ c.gain
        → lived_from start olds news 0 keys c ≡ record { entries = []; held = c.held }
    unfolding lived_from
    walk_end c l g =
        passed (length keys) 0 keys c (omega arith) (omega arith) (omega arith)
        ∙ ap (λ (xs : List ℕ). lived_from start olds news (0 + length keys) xs c) (drop-length keys)

    pub walk-loss : (c : Walk) → c.lose < length keys → c.lose ≤ c.gain → c.lose < get_or olds c.lose 0
        → lived_from start olds news 0 keys c
        ≡ before (cond (eqb (c.held - 1) 0) (life_entry (key_date (get_or keys c.lose 0)) true ∷ []) [])
        (lived_from start olds news 0 keys (after_loss olds c))
    walk-loss c h l rise =
        let k : ℕ = c.lose in
        let x : ℕ = get_or keys k 0 in
        let xs : List ℕ = drop (suc k) keys in
        let c' : Walk = after_loss olds c in
        let gains : Bool = eqb c.gain k in
        let told : List Entry = cond (eqb (c.held - 1) 0) (life_entry (key_date x) true ∷ []) [] in
        from k c h (omega arith) l
        ∙ (step k x xs c true gains (eq-eqb k k refl) refl
        ∙ (step-loss k x xs c gains
        ∙ ap (before told)
        (sym (from k c' h (omega arith) l ∙ step k x xs c' false gains (ne_eqb (get_or olds k 0) k (λ e. omega arith)) refl))))

    pub walk-gain : (c : Walk) → c.gain < length keys → c.gain < c.lose → c.gain < get_or news c.gain 0
        → lived_from start olds news 0 keys c
        ≡ before
        (cond (eqb c.held 0 && earlier start (key_date (get_or keys c.gain 0))) (life_entry (key_date (get_or keys c.gain 0)) false ∷ []) [])
        (lived_from start olds news 0 keys (after_gain news c))
    walk-gain c h l rise =
        let k : ℕ = c.gain in
        let x : ℕ = get_or keys k 0 in
        let xs : List ℕ = drop (suc k) keys in
        let c' : Walk = after_gain news c in
        let told : List Entry = cond (eqb c.held 0 && earlier start (key_date x)) (life_entry (key_date x) false ∷ []) [] in
        let kept : eqb c.lose k ≡ false = ne_eqb c.lose k (λ e. omega arith) in
        from k c h (omega arith) (omega arith)
        ∙ (step k x xs c false true kept (eq-eqb k k refl)
        ∙ (step-gain k x xs c
        ∙ ap (before told)
        (sym
        (from k c' h (omega arith) (omega arith)
        ∙ (step k x xs c' false false kept (ne_eqb (get_or news k 0) k (λ e. omega arith)) ∙ step-none k x xs c')))))

-- ## What a change tells

module _ (start : Eu4Date) (keys olds news : List ℕ) (s : Chained keys olds news) (c : Walk) where
  -- Behind it the walk has other entries left, and fewer links ahead.
  abbrev pub Past : List Entry → Walk → Type 0
  Past told c' = ((lived_left start keys olds news c).entries ≡ told ++ (lived_left start keys olds news c').entries) × (ahead c' < ahead c)

  module _ (h : c.lose < length keys) (l : c.lose ≤ c.gain) where
    abbrev loss_told : List Entry
    loss_told = cond (eqb (c.held - 1) 0) (life_entry (key_date (get_or keys c.lose 0)) true ∷ []) []

    loss : Past loss_told (after_loss olds c)
    loss = (ap (λ (x : Lived). x.entries) (walk-loss start olds news keys c h l (s.olds_rise c.lose h)), omega (arith, s.few, s.olds_rise c.lose h))

    -- The walk behind it, as the code finds it.
    module _ (lose held : ℕ) (p : lose ≡ get_or olds c.lose 0) (q : held ≡ c.held - 1) where
      pub loss-told : (date : Eu4Date) → date ≡ key_date (get_or keys c.lose 0) → held ≡ 0
          → Past (life_entry date true ∷ []) (record { lose = lose; gain = c.gain; held = held })
      loss-told date d z = let e : eqb (c.held - 1) 0 ≡ true = eq-eqb (c.held - 1) 0 (omega arith) in rw (d, p, q) (rw e at loss)

      pub loss-silent : 0 < held → Past [] (record { lose = lose; gain = c.gain; held = held })
      loss-silent z = let e : eqb (c.held - 1) 0 ≡ false = ne_eqb (c.held - 1) 0 (λ w. omega arith) in rw (p, q) (rw e at loss)

  module _ (h : c.gain < length keys) (l : c.gain < c.lose) where
    abbrev gain_told : List Entry
    gain_told = cond (eqb c.held 0 && earlier start (key_date (get_or keys c.gain 0))) (life_entry (key_date (get_or keys c.gain 0)) false ∷ []) []

    gain : Past gain_told (after_gain news c)
    gain = (ap (λ (x : Lived). x.entries) (walk-gain start olds news keys c h l (s.news_rise c.gain h)), omega (arith, s.few, s.news_rise c.gain h))

    module _ (gains : ℕ) (p : gains ≡ get_or news c.gain 0) (date : Eu4Date) (d : date ≡ key_date (get_or keys c.gain 0)) where
      pub gain-told : eqb c.held 0 && earlier start date ≡ true
          → Past (life_entry date false ∷ []) (record { lose = c.lose; gain = gains; held = c.held + 1 })
      gain-told e = rw (d, p) (rw (rw d at e) at gain)

      pub gain-silent : eqb c.held 0 && earlier start date ≡ false → Past [] (record { lose = c.lose; gain = gains; held = c.held + 1 })
      gain-silent e = rw p (rw (rw d at e) at gain)

-- A link as the code reads it.
module _ (turns : List LossGain) (k n : ℕ) (e : k ≡ n) where
  pub linked-loss : (get_or turns k (record { loss = 0; gain = 0 })).loss ≡ get_or (losses turns) n 0
  linked-loss = rw e (sym (get_or-map (λ x. x.loss) turns n (record { loss = 0; gain = 0 })))

  pub linked-gain : (get_or turns k (record { loss = 0; gain = 0 })).gain ≡ get_or (gains turns) n 0
  linked-gain = rw e (sym (get_or-map (λ x. x.gain) turns n (record { loss = 0; gain = 0 })))

-- ## The end

-- Behind the last change nothing is left.
pub none-left : (start : Eu4Date) (keys olds news : List ℕ) (c : Walk) → ltb c.lose (length keys) || ltb c.gain (length keys) ≡ false
    → (lived_left start keys olds news c).entries ≡ []
none-left start keys olds news c h =
    let past = neither (ltb c.lose (length keys)) (ltb c.gain (length keys)) h in
    ap (λ (x : Lived). x.entries)
    (walk_end start olds news keys c (ltb-false c.lose (length keys) past.0) (ltb-false c.gain (length keys) past.1))

-- ## How many entries

-- A change tells two entries at most.
pub turn-short : (start date : Eu4Date) (loses gains : Bool) (n : ℕ) → length (turn_entries start date loses gains n) ≤ 2
unfolding turn_entries
turn-short start date loses gains n = go (loses && eqb (n - 1) 0) (gains && eqb (cond loses (n - 1) n) 0 && earlier start date)
  where
    go : (a b : Bool) → length {A = Entry} (cond a (record { date = date; kind = Annexed } ∷ []) [] ++ cond b (record { date = date; kind = Appeared } ∷ []) []) ≤ 2
    go true true = omega arith
    go true false = omega arith
    go false true = omega arith
    go false false = omega arith

pub lived-short : (start : Eu4Date) (olds news : List ℕ) (k : ℕ) (keys : List ℕ) (c : Walk)
    → length (lived_from start olds news k keys c).entries ≤ 2 * length keys
unfolding lived_from
lived-short start olds news k [] c = omega arith
lived-short start olds news k (x ∷ xs) c =
    let here : List Entry = turn_entries start (key_date x) (eqb c.lose k) (eqb c.gain k) c.held in
    let rest : List Entry = (lived_from start olds news (suc k) xs (past_change olds news k c)).entries in
    omega (
      arith,
      length-append here rest,
      turn-short start (key_date x) (eqb c.lose k) (eqb c.gain k) c.held,
      lived-short start olds news (suc k) xs (past_change olds news k c),
    )

-- So an iterator has few lives left.
pub lives-short : (l : Lives) → length (lives_left l) ≤ 2 * no_change
lives-short l =
    omega (arith, l.chained.few, lived-short l.start (losses l.turns.now) (gains l.turns.now) 0 l.keys.now (walk_in l))
