-- The tests in the order of the numbers: the first that refuses gives its number, and those before it passed.
use mathlib.Core.Path.{◌≡◌, refl, sym, ap, subst, ◌∙◌}
use mathlib.Core.Bool.{◌||◌}
use native.Mathlib.Omega.{arith}
use lib.Dec.{eqb, ltb}
use Rattle.format.specs.declared.refused.Refusal.TheVariants.{NotARecord, UnknownVersion, Repeated, DatesReversed}
use Rattle.format.specs.Head.{head_of}
use Rattle.format.specs.RecordNumber.{refusal, first_of, sizes_agree, opening_number, version_number, sizes_number, fields_number, repeats_number, tag_twice, id_twice_or_above}
use Rattle.format.proofs.AcceptLaws.{number-true}
use Rattle.format.proofs.RefusalNumberLaws.{pass, stop}
use Rattle.format.proofs.SizeLaws.{laid}
use Rattle.record_check.specs.Sections.{SectionsOf}
use Rattle.record_check.proofs.RepeatLaws.{countries-good}
use Rattle.record_check.proofs.TotalLaws.{few-rows}
use Rattle.record_check.proofs.VerdictLaws.{zero-if, number-if, zero-unless, number-unless, refused, refused-by}
use Rattle.record_check.proofs.verdict.accept.Goals.{After-read_head, After-version_known, After-sizes_checked, In_ok-parsed, In_ok-check_fields, After-ends_early}
use Rattle.record_check.proofs.verdict.accept.Goals as goal

-- Each test, told of the record.
opened : (c : After-read_head) → 0 ≡ opening_number c.args.s.now
opened c = zero-if 1 (sym c.opens_record.ensures ∙ c.if-not-opens_record.false)

version : (c : After-version_known) → eqb (head_of c.args.s.now).version 1 ≡ c.version_known.result
version c = sym (c.version_known.ensures ∙ ap (λ h. eqb h.version 1) c.read_head.ensures)

known : (c : After-sizes_checked) → 0 ≡ version_number c.args.s.now
known c = zero-if 2 (version (goal.at.After-sizes_checked c).After-version_known ∙ c.if-not-version_known.false)

fit : (c : In_ok-parsed) → 0 ≡ sizes_number c.args.s.now
fit c = c.in_ok-parsed.ensures.number

head : (c : In_ok-parsed) → c.in_ok-parsed.parsed.head ≡ head_of c.args.s.now
head c = c.in_ok-parsed.parsed.head_read ∙ ap head_of c.in_ok-parsed.ensures.bytes

rows : (c : In_ok-parsed) → SectionsOf c.args.s.now c.in_ok-parsed.parsed.head c.in_ok-parsed.parsed.sections
rows c =
    let p = c.in_ok-parsed.parsed in
    subst (λ xs. SectionsOf xs p.head p.sections) c.in_ok-parsed.ensures.bytes p.rows_read

clean : (c : In_ok-check_fields) → 0 ≡ fields_number c.args.s.now
clean c = c.in_ok-check_fields.ensures ∙ ap fields_number c.in_ok-parsed.ensures.bytes

once : (c : After-ends_early) → 0 ≡ repeats_number c.args.s.now
once c =
    zero-unless 7 (ap (λ xs. tag_twice xs || id_twice_or_above xs) (sym c.in_ok-parsed.ensures.bytes) ∙ sym c.repeated.ensures ∙ c.if-repeated.false)

early : (c : After-ends_early) → ltb (head_of c.args.s.now).current.0 (head_of c.args.s.now).start.0 ≡ c.ends_early.result
early c = sym (c.ends_early.ensures ∙ ap (λ h. ltb h.current.0 h.start.0) (head (goal.at.After-ends_early c).In_ok-parsed))

pub returns-then-not-opens_record : goal.returns-then-not-opens_record
unfolding refusal
returns-then-not-opens_record c = refused c.args.s.now NotARecord (stop _ NotARecord (number-if 1 (sym c.opens_record.ensures ∙ c.if-not-opens_record.true)))

pub returns-then-not-version_known : goal.returns-then-not-version_known
unfolding refusal
returns-then-not-version_known c =
    let at = goal.at.returns-then-not-version_known c in
    refused c.args.s.now UnknownVersion
    (pass _ (opened at.After-read_head) (stop _ UnknownVersion (number-if 2 (version at.After-version_known ∙ c.if-not-version_known.true))))

pub returns-in_err-parsed : goal.returns-in_err-parsed
unfolding refusal
returns-in_err-parsed c =
    let at = goal.at.returns-in_err-parsed c in
    refused-by c.args.s.now c.from_residual.result c.in_err-parsed.field-0.0 c.from_residual.ensures
    (pass _ (opened at.After-read_head) (pass _ (known at.After-sizes_checked) (stop _ c.in_err-parsed.field-0.0 c.in_err-parsed.ensures.number)))

pub returns-in_err-check_fields : goal.returns-in_err-check_fields
unfolding refusal
returns-in_err-check_fields c =
    let at = goal.at.returns-in_err-check_fields c in
    let bad = c.in_err-check_fields.ensures ∙ ap fields_number c.in_ok-parsed.ensures.bytes in
    refused-by c.args.s.now c.from_residual-in_err-check_fields.result c.in_err-check_fields.field-0.0 c.from_residual-in_err-check_fields.ensures
    (pass _ (opened at.After-read_head) (pass _ (known at.After-sizes_checked) (pass _ (fit at.In_ok-parsed)
    (stop _ c.in_err-check_fields.field-0.0 bad))))

pub repeated-requires-clause-few : goal.repeated-requires-clause-few
repeated-requires-clause-few c =
    let at = (goal.at.repeated-requires-clause-few c).In_ok-parsed in
    let s = c.args.s.now in
    let p = c.in_ok-parsed.parsed in
    let sizes = number-true (sizes_agree s) 3 (omega arith) (sym (fit at)) in
    few-rows s p.head p.sections (laid s p.head (head at) sizes).limits (rows at)

pub repeated-requires-clause-good_tags : goal.repeated-requires-clause-good_tags
repeated-requires-clause-good_tags c =
    let at = goal.at.repeated-requires-clause-good_tags c in
    let p = c.in_ok-parsed.parsed in
    countries-good c.args.s.now p.head p.sections (head at.In_ok-parsed) (rows at.In_ok-parsed) (clean at.In_ok-check_fields)

pub returns-then-repeated : goal.returns-then-repeated
unfolding refusal
returns-then-repeated c =
    let at = goal.at.returns-then-repeated c in
    let found = ap (λ xs. tag_twice xs || id_twice_or_above xs) (sym c.in_ok-parsed.ensures.bytes) ∙ sym c.repeated.ensures ∙ c.if-repeated.true in
    refused c.args.s.now Repeated
    (pass _ (opened at.After-read_head) (pass _ (known at.After-sizes_checked) (pass _ (fit at.In_ok-parsed) (pass _ (clean at.In_ok-check_fields)
    (stop _ Repeated (number-unless 7 found))))))

pub returns-then-ends_early : goal.returns-then-ends_early
unfolding refusal
returns-then-ends_early c =
    let at = goal.at.returns-then-ends_early c in
    refused c.args.s.now DatesReversed
    (pass _ (opened at.After-read_head) (pass _ (known at.After-sizes_checked) (pass _ (fit at.In_ok-parsed) (pass _ (clean at.In_ok-check_fields)
    (pass _ (once at.After-ends_early) (stop _ DatesReversed (number-unless 8 (early at.After-ends_early ∙ c.if-ends_early.true))))))))

pub returns : goal.returns
unfolding refusal first_of
returns c =
    let at = goal.at.returns c in
    record {
      number =
          pass _ (opened at.After-read_head) (pass _ (known at.After-sizes_checked) (pass _ (fit at.In_ok-parsed) (pass _ (clean at.In_ok-check_fields)
          (pass _ (once at.After-ends_early) (pass _ (zero-unless 8 (early at.After-ends_early ∙ c.if-ends_early.false)) refl)))));
      rows = (head at.In_ok-parsed, rows at.In_ok-parsed);
    }
