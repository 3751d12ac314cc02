-- Chains of changes: linking, both chains of a list, and walking along one. Linking goes from the last change to the first; its invariant: the changes from
-- k on are links, those before k are rows still, and each row's head is its first change from k on.
use mathlib.Core.Path.{◌≡◌, refl, sym, ap, subst, ◌∙◌}
use mathlib.Core.Bool.{Bool, cond}
use mathlib.Core.List.{List, [], ◌∷◌, ◌++◌, map, append-nil}
use Prim.Native.Nat.{ℕ, zero, suc, ◌+◌, ◌-◌, ◌≤◌, ◌<◌}
use native.Mathlib.Omega.{arith}
use borrow.Author.Tests.{ltb-true, eqb-true, eqb-false, lt-ltb, le-ltb, eq-eqb, ne_eqb}
use lib.Dec.{ltb, eqb}
use lib.ListN.{length, get_or, set, take, drop, length-set, length-map, length-take, get_or-append, get_or-map}
use lib.Seq.{take-length, drop-length, take-suc, drop-cons, append_snoc, set_at, length-take-le, get_or-take, get_or-drop, drop-drop, get_or-set_same, get_or-set_other, map-set_same, set_out}
use Rattle.lists.proofs.BoolLaws.{cases}
use Rattle.std.proofs.lemmas.List.{map-set}
use Rattle.nation_tables.specs.declared.layout.LossGain.{LossGain}
use Rattle.nation_tables.specs.Layout.{no_change}
use Rattle.nation_tables.specs.Turning.{losses, gains, first_at, links_from, Fresh, Linked, TurnsLinked, Pushed, LossPushed, GainPushed}

-- ## Linking

pub record Linking (rows links heads : List ℕ) (k : ℕ) : Type 0 where
  pub inside : k ≤ length rows
  pub few : length rows ≤ no_change
  pub long : length links ≡ length rows
  pub cells : links ≡ take k rows ++ links_from (length heads) k (drop k rows)
  pub firsts : (r : ℕ) → r < length heads → get_or heads r 0 ≡ first_at r k (drop k rows)

pub linking-none : (rows heads : List ℕ) → length rows ≤ no_change → Fresh heads → Linking rows rows heads (length rows)
unfolding first_at links_from
linking-none rows heads few fresh =
    record {
      inside = omega arith;
      few = few;
      long = refl;
      cells = sym (simp (take-length rows, drop-length rows, append-nil));
      firsts = λ r l. fresh.none r l ∙ sym (simp (drop-length rows));
    }

pub pushed_long : (heads : List ℕ) (row k r : ℕ) (after : List ℕ) → Pushed heads row k r after → length after ≡ length heads
pushed_long heads row k r after p = ap length p.cells ∙ length-set heads row k

-- One change more.
module _ (rows links heads : List ℕ) (j r : ℕ) (after : List ℕ) (inside : j < length rows) (i : Linking rows links heads (suc j))
    (p : Pushed heads (get_or links j 0) j r after) where
  -- The cell still holds its row.
  row_kept : get_or links j 0 ≡ get_or rows j 0
  row_kept =
      let l : j < length (take (suc j) rows) = simp length-take (omega arith) in
      ap (λ (l : List ℕ). get_or l j 0) i.cells
      ∙ (get_or-append (take (suc j) rows) (links_from (length heads) (suc j) (drop (suc j) rows)) 0 j l ∙ get_or-take (suc j) rows j 0 (omega arith))

  linked : r ≡ cond (ltb (get_or rows j 0) (length heads)) (first_at (get_or rows j 0) (suc j) (drop (suc j) rows)) no_change
  linked =
      p.next
      ∙ rw row_kept
      (cases (ltb (get_or rows j 0) (length heads))
      (λ h. simp h (i.firsts (get_or rows j 0) (ltb-true (get_or rows j 0) (length heads) h)))
      (λ h. simp h))

  cells-more : set links j r ≡ take j rows ++ links_from (length heads) j (drop j rows)
  unfolding links_from
  cells-more =
      let rest : List ℕ = links_from (length heads) (suc j) (drop (suc j) rows) in
      let row : ℕ = get_or rows j 0 in
      ap (λ (l : List ℕ). set l j r) (i.cells ∙ (ap (λ (l : List ℕ). l ++ rest) (take-suc rows j 0 inside) ∙ append_snoc (take j rows) row rest))
      ∙ (set_at (take j rows) row rest r j (length-take-le j rows (omega arith)) ∙ simp (drop-cons rows j 0 inside, linked))

  firsts_more : (q : ℕ) → q < length heads → get_or (set heads (get_or links j 0) j) q 0 ≡ first_at q j (drop j rows)
  unfolding first_at
  firsts_more q l =
      let row : ℕ = get_or rows j 0 in
      simp (row_kept, drop-cons rows j 0 inside)
      (cases (eqb row q)
      (λ h. let e : row ≡ q = eqb-true row q h in simp h (rw e (get_or-set_same heads q j 0 l)))
      (λ h. simp h (get_or-set_other heads row q j 0 (λ e. eqb-false row q h (sym e)) ∙ i.firsts q l)))

  linking-more : Linking rows (set links j r) after j
  linking-more =
      let long : length after ≡ length heads = pushed_long heads (get_or links j 0) j r after p in
      record {
        inside = omega arith;
        few = i.few;
        long = length-set links j r ∙ i.long;
        cells = simp long cells-more;
        firsts = λ q l. ap (λ (l : List ℕ). get_or l q 0) p.cells ∙ firsts_more q (omega arith);
      }

pub linking-step : (rows links heads : List ℕ) (k r : ℕ) (after : List ℕ) → 0 < k → Linking rows links heads k
    → Pushed heads (get_or links (k - 1) 0) (k - 1) r after → Linking rows (set links (k - 1) r) after (k - 1)
linking-step rows links heads zero r after h i p = absurd (omega arith)
linking-step rows links heads (suc j) r after h i p =
    let e : suc j - 1 ≡ j = omega arith in
    simp e (linking-more rows links heads j r after (omega (arith, i.inside)) i (rw e at p))

pub linking-done : (rows links heads : List ℕ) (k : ℕ) → k ≡ 0 → Linking rows links heads k → Linked rows links heads
linking-done rows links heads k e i =
    record { cells = rw e at i.cells; firsts = rw e at i.firsts }

-- ## Both chains of a list

-- What a place past the end reads as.
abbrev past_end : LossGain
past_end = record { loss = 0; gain = 0 }

module _ (firsts : List LossGain) (row k : ℕ) where
  abbrev here : LossGain
  here = get_or firsts row past_end

  -- No row has this number: nothing is pushed.
  none-pushed : (f : LossGain → ℕ) → length firsts ≤ row → Pushed (map f firsts) row k no_change (map f firsts)
  none-pushed f h =
      let past : length (map f firsts) ≤ row = omega (arith, length-map firsts f) in
      record { next = simp (le-ltb row (length (map f firsts)) past); cells = sym (set_out (map f firsts) row k past) }

  pub loss-outside : length firsts ≤ row → LossPushed firsts row k no_change firsts
  loss-outside h = record { loss = none-pushed (λ x. x.loss) h; gain = refl }

  pub gain-outside : length firsts ≤ row → GainPushed firsts row k no_change firsts
  gain-outside h = record { gain = none-pushed (λ x. x.gain) h; loss = refl }

  -- A row has it: one of its two numbers is pushed.
  one-pushed : (f : LossGain → ℕ) (v : LossGain) → f past_end ≡ 0 → f v ≡ k → row < length firsts → Pushed (map f firsts) row k (f here) (map f (set firsts row v))
  one-pushed f v z e h =
      let inside : row < length (map f firsts) = omega (arith, length-map firsts f) in
      record {
        next = simp (lt-ltb row (length (map f firsts)) inside) (sym (get_or-map f firsts row past_end) ∙ ap (λ (d : ℕ). get_or (map f firsts) row d) z);
        cells = map-set f firsts row v ∙ ap (set (map f firsts) row) e;
      }

  pub loss-inside : row < length firsts → (r n : ℕ) → r ≡ here.loss → n ≡ k → LossPushed firsts row k r (set firsts row (record { loss = n; gain = here.gain }))
  loss-inside h r n e w =
      let v : LossGain = record { loss = n; gain = here.gain } in
      rw e (record { loss = one-pushed (λ x. x.loss) v refl w h; gain = map-set_same (λ x. x.gain) firsts row v past_end refl })

  pub gain-inside : row < length firsts → (r n : ℕ) → r ≡ here.gain → n ≡ k → GainPushed firsts row k r (set firsts row (record { loss = here.loss; gain = n }))
  gain-inside h r n e w =
      let v : LossGain = record { loss = here.loss; gain = n } in
      rw e (record { gain = one-pushed (λ x. x.gain) v refl w h; loss = map-set_same (λ x. x.loss) firsts row v past_end refl })

-- Both chains are linked from change k on.
pub record BothLinking (turns₀ firsts₀ turns firsts : List LossGain) (k : ℕ) : Type 0 where
  pub loss : Linking (losses turns₀) (losses turns) (losses firsts) k
  pub gain : Linking (gains turns₀) (gains turns) (gains firsts) k
  pub inside : k ≤ length turns₀
  pub few : length turns₀ ≤ no_change
  pub long : length turns ≡ length turns₀
  pub rows : length firsts ≡ length firsts₀

pub both-none : (turns firsts : List LossGain) → length turns ≤ no_change → Fresh (losses firsts) → Fresh (gains firsts)
    → BothLinking turns firsts turns firsts (length turns)
both-none turns firsts few loss gain =
    record {
      loss = begin (λ x. x.loss) loss;
      gain = begin (λ x. x.gain) gain;
      inside = omega arith;
      few = few;
      long = refl;
      rows = refl;
    }
  where
    begin : (f : LossGain → ℕ) → Fresh (map f firsts) → Linking (map f turns) (map f turns) (map f firsts) (length turns)
    begin f fresh =
        let l : length (map f turns) ≡ length turns = length-map turns f in
        subst (Linking (map f turns) (map f turns) (map f firsts)) l (linking-none (map f turns) (map f firsts) (omega arith) fresh)

-- One of the two numbers of a change more.
number_step : (f : LossGain → ℕ) (turns₀ turns : List LossGain) (heads after : List ℕ) (k r : ℕ) (v : LossGain) → f past_end ≡ 0 → f v ≡ r → 0 < k
    → Linking (map f turns₀) (map f turns) heads k → Pushed heads (f (get_or turns (k - 1) past_end)) (k - 1) r after
    → Linking (map f turns₀) (map f (set turns (k - 1) v)) after (k - 1)
number_step f turns₀ turns heads after k r v z e h i p =
    let there : get_or (map f turns) (k - 1) 0 ≡ f (get_or turns (k - 1) past_end) =
    ap (λ (d : ℕ). get_or (map f turns) (k - 1) d) (sym z) ∙ get_or-map f turns (k - 1) past_end in
    let put : map f (set turns (k - 1) v) ≡ set (map f turns) (k - 1) r = map-set f turns (k - 1) v ∙ ap (set (map f turns) (k - 1)) e in
    rw put (linking-step (map f turns₀) (map f turns) heads k r after h i (rw there p))

module _ (turns₀ firsts₀ turns firsts : List LossGain) (k : ℕ) (b : BothLinking turns₀ firsts₀ turns firsts k) where
  -- Both numbers of change k - 1 are pushed.
  pub both-step : 0 < k → (loss gain : ℕ) (after last : List LossGain) → LossPushed firsts (get_or turns (k - 1) past_end).loss (k - 1) loss after
      → GainPushed after (get_or turns (k - 1) past_end).gain (k - 1) gain last → BothLinking turns₀ firsts₀ (set turns (k - 1) (record { loss = loss; gain = gain })) last (k - 1)
  both-step h loss gain after last p q =
      let v : LossGain = record { loss = loss; gain = gain } in
      record {
        loss = rw q.loss (number_step (λ x. x.loss) turns₀ turns (losses firsts) (losses after) k loss v refl refl h b.loss p.loss);
        gain = number_step (λ x. x.gain) turns₀ turns (gains firsts) (gains last) k gain v refl refl h b.gain (rw p.gain at q.gain);
        inside = let i = b.inside in omega arith;
        few = b.few;
        long = length-set turns (k - 1) v ∙ b.long;
        rows =
            let i = length-map last (λ x. x.gain) in
            let j = length-map after (λ x. x.loss) in
            let i' = length-map after (λ x. x.gain) in
            let j' = length-map firsts (λ x. x.loss) in
            let x = pushed_long _ _ _ _ _ p.loss in
            let y = pushed_long _ _ _ _ _ q.gain in
            let l = b.rows in
            omega arith;
      }

  pub both-done : k ≡ 0 → TurnsLinked turns₀ turns firsts
  both-done e = record { loss = linking-done _ _ _ k e b.loss; gain = linking-done _ _ _ k e b.gain }

-- ## Links

-- What is found from k on is not before k.
pub first-from : (x k : ℕ) (ys : List ℕ) → k + length ys ≤ no_change → k ≤ first_at x k ys
unfolding first_at
first-from x k [] h = omega arith
first-from x k (y ∷ ys) h =
    cases (eqb y x) (λ e. simp e (omega arith)) (λ e. simp e (omega (arith, first-from x (suc k) ys (omega arith))))

pub length-links : (m k : ℕ) (rows : List ℕ) → length (links_from m k rows) ≡ length rows
unfolding links_from
length-links m k [] = refl
length-links m k (x ∷ xs) = ap suc (length-links m (suc k) xs)

pub links-rise : (m k : ℕ) (rows : List ℕ) (i : ℕ) → k + length rows ≤ no_change → i < length rows → k + i < get_or (links_from m k rows) i 0
unfolding links_from
links-rise m k [] i h l = absurd (omega arith)
links-rise m k (x ∷ xs) zero h l =
    cases (ltb x m) (λ e. simp e (omega (arith, first-from x (suc k) xs (omega arith)))) (λ e. simp e (omega arith))
links-rise m k (x ∷ xs) (suc i) h l = omega (arith, links-rise m (suc k) xs i (omega arith) (omega arith))

-- ## Along a chain

-- `at` is the next change of row r, from k on, where the rows from k on were turned into links.
pub record OnChain (links : List ℕ) (m r k : ℕ) (rows : List ℕ) (at : ℕ) : Type 0 where
  pub cells : drop k links ≡ links_from m k rows
  pub next : at ≡ first_at r k rows
  pub few : k + length rows ≤ no_change

module _ (links : List ℕ) (m r k x : ℕ) (rows : List ℕ) (at : ℕ) (on : OnChain links m r k (x ∷ rows) at) where
  -- Change k is the next one if it is of that row.
  pub chain-here : eqb at k ≡ eqb x r
  unfolding first_at
  chain-here =
      cases (eqb x r)
      (λ e. eq-eqb at k (on.next ∙ simp e) ∙ sym e)
      (λ e. let f : suc k ≤ first_at r (suc k) rows = first-from r (suc k) rows (omega (arith, on.few)) in
      let g : at ≡ first_at r (suc k) rows = on.next ∙ simp e in
      ne_eqb at k (λ w. omega arith) ∙ sym e)

  link_here : get_or links k 0 ≡ cond (ltb x m) (first_at x (suc k) rows) no_change
  unfolding links_from
  link_here =
      let e : k + 0 ≡ k = omega arith in
      ap (λ (j : ℕ). get_or links j 0) (sym e) ∙ (sym (get_or-drop k links 0 0) ∙ ap (λ (l : List ℕ). get_or l 0 0) on.cells)

  -- The walk behind change k.
  pub chain_next : r < m → OnChain links m r (suc k) rows (cond (eqb at k) (get_or links k 0) at)
  unfolding first_at links_from
  chain_next small =
      let e : k + 1 ≡ suc k = omega arith in
      record {
        cells = ap (λ (j : ℕ). drop j links) (sym e) ∙ (sym (drop-drop 1 k links) ∙ ap (drop 1) on.cells);
        next =
            ap (λ (b : Bool). cond b (get_or links k 0) at) chain-here
            ∙ cases (eqb x r)
            (λ h. let f : x ≡ r = eqb-true x r h in
            simp h (link_here ∙ rw f (simp (lt-ltb r m small))))
            (λ h. simp h (on.next ∙ simp h));
        few = omega (arith, on.few);
      }
