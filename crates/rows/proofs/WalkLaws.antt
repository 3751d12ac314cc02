-- What iterators over history rows give, and what is known of a list once the first of it were asked for.
use mathlib.Core.Path.{◌≡◌, refl, sym, ap, subst, ◌∙◌}
use mathlib.Core.Bool.{Bool}
use mathlib.Core.List.{List, [], ◌∷◌, map}
use denote.Param.Members.{Mut}
use denote.Ref.{Bor}
use lib.ListN.{length}
use Rattle.std.specs.Prelude as code
use Rattle.std.specs.Prelude.{Some, None}
use Rattle.std.specs.Fn.{CalledAt}
use Rattle.std.specs.Iterator.{YieldsFirst}
use Rattle.std.specs.Iterator.Adapters.{filter_source, filter_callee, filter_steps}
use Rattle.std.specs.declared.iter.Filter.{Filter}
use Rattle.std.proofs.lemmas.Iterator.{YieldsList}
use Rattle.std.proofs.lemmas.Iterator.Consumers.{YieldsList-at, YieldsList-from_shown, YieldsList-from_filter}
use Rattle.lists.specs.Lists.{keep}
use Rattle.lists.proofs.CodeLaws.{filter_keep}
use Rattle.rows.specs.declared.lent_rows.LentRows.{LentRows}
use Rattle.rows.specs.RowAt.{told_left}
use Rattle.format.specs.declared.values.HistoryRow.{HistoryRow}
use Rattle.rules.specs.HistoryRows.{history_width, history_row_of}
use Rattle.rows.specs.HistoryAt.{histories_left}

-- The rows of a walk.
abbrev pub walk_steps : LentRows HistoryRow history_width → code.Option HistoryRow → LentRows HistoryRow history_width → Type 0
walk_steps = YieldsFirst (told_left history_row_of)

pub rows-walked : {s : LentRows HistoryRow history_width} (ds : List HistoryRow) → histories_left s ≡ ds → YieldsList walk_steps (λ x. x) s ds
rows-walked {s} ds e =
    subst (YieldsList walk_steps (λ x. x) s) e
    (YieldsList-from_shown walk_steps (λ x. x) histories_left (λ t u h. ap length h.0) (λ t x u h. h) s)

-- Those that pass a test.
pub rows-kept : {F : Type 0} {s : Filter (LentRows HistoryRow history_width) F} (g : Mut F (Bor HistoryRow × Unit {0}) Bool) (p : HistoryRow → Bool) {f : F} (rows : LentRows HistoryRow history_width)
    (ds : List HistoryRow) → histories_left rows ≡ ds → filter_source s ≡ rows → filter_callee s ≡ f → ((x : HistoryRow) (b : Bool) (q : F) → CalledAt g f x b q → (q ≡ f) × (b ≡ p x))
    → YieldsList (filter_steps walk_steps g) (λ x. x) s (keep p ds)
rows-kept g p rows ds told source callee called =
    rw (← filter_keep p ds) (YieldsList-from_filter g p (YieldsList-at source (rows-walked ds told)) callee called)

-- ## One or two elements were asked for

module _ {S A B : Type 0} {steps : S → code.Option A → S → Type 0} {v : A → B} where
  -- None came.
  pub none-left : {s : S} (all : List B) → YieldsList steps v s all → (t : S) (r : code.Option A) → r ≡ None → steps s r t → all ≡ []
  none-left [] road t r is p = refl
  none-left {s} (x ∷ xs) road t r is p = absurd (road.runs.0 t (subst (λ o. steps s o t) is p))

  -- One came.
  first-left : {s : S} (all : List B) → YieldsList steps v s all → (t : S) (r : code.Option A) (x : A) → r ≡ Some x → steps s r t
      → (rest : List B) × (all ≡ v x ∷ rest) × YieldsList steps v t rest
  first-left {s} [] road t r x is p = absurd (road.runs x t (subst (λ o. steps s o t) is p))
  first-left {s} (z ∷ zs) road t r x is p =
      let q = road.runs.1 x t (subst (λ o. steps s o t) is p) in
      (zs, ap (λ w. w ∷ zs) (sym q.0), record { runs = q.1 })

  -- Behind the first that came none did, or a second one.
  module _ {s : S} {all : List B} (road : YieldsList steps v s all) (t : S) (r : code.Option A) (x : A) (is : r ≡ Some x) (p : steps s r t) where
    pub one-left : (u : S) (q : code.Option A) → q ≡ None → steps t q u → all ≡ v x ∷ []
    one-left u q none n =
        let f = first-left all road t r x is p in
        f.1 ∙ ap (λ (l : List B). v x ∷ l) (none-left f.0 f.2 u q none n)

    pub two-left : (u : S) (q : code.Option A) (y : A) → q ≡ Some y → steps t q u → (rest : List B) × (all ≡ v x ∷ v y ∷ rest)
    two-left u q y some n =
        let f = first-left all road t r x is p in
        let g = first-left f.0 f.2 u q y some n in
        (g.0, f.1 ∙ ap (λ (l : List B). v x ∷ l) g.1)
