use Rattle.std.proofs.Common.{◌≤◌, ℕ, [], length, sym, ap, ◌∙◌, subst, arith, refl}
use Rattle.std.specs.Str.{chars}
use Rattle.lisp_reader.specs.Building.{stock}
use Rattle.lisp_reader.specs.Reading.{refusal}
use Rattle.lisp_reader.specs.declared.fault.ReadKind.TheVariants.{NotText}
use Rattle.lisp_reader.specs.Answers.{IsRefusedAt, too_long, no_text, greatest_length}
use Rattle.lisp_reader.specs.Tokens.{utf8_length}
use Rattle.lisp_reader.proofs.Whole.{reads_whole, refuses_whole, bytes_of, tokens_of_file}
use Rattle.lisp_reader.specs.Machine.{run, world}
use Rattle.lisp_reader.specs.Held.{fault_of}
use Rattle.lisp_reader.proofs.Steps.{if_some_weaker, if_err_weaker}
use Rattle.std.proofs.lemmas.Result.{IfOk-weaker}
use Rattle.lisp_reader.proofs.read.read_file.Goals as goal

pub returns-then-bytes-gt-GREATEST_LENGTH-clause-refused : goal.returns-then-bytes-gt-GREATEST_LENGTH-clause-refused
unfolding greatest_length
returns-then-bytes-gt-GREATEST_LENGTH-clause-refused c = too_long c.if-bytes-gt-GREATEST_LENGTH.true refl

pub returns-in-Err-clause-refused : goal.returns-in-Err-clause-refused
unfolding greatest_length
returns-in-Err-clause-refused c =
    let short : length c.args.bytes.now ≤ greatest_length = omega (arith, c.if-bytes-gt-GREATEST_LENGTH.false) in
    subst (λ (n : ℕ). IsRefusedAt c.args.bytes.now (stock c.args.symbols.now c.args.heap.now) (refusal NotText n)) (sym (c.valid_up_to.ensures ∙ c.in-Err.ensures.valid_len))
    (no_text short c.in-Err.ensures.cases.0 refl)

pub read_text-requires-clause-fits : goal.read_text-requires-clause-fits
read_text-requires-clause-fits c =
    c.without_mark-start.ensures.length
    ∙ (ap utf8_length (c.as_slice.ensures.value ∙ (c.in_ok-letters.ensures ∙ ap chars c.in-Ok.ensures.cases.0)) ∙ bytes_of c.args.bytes.now c.in-Ok.ensures.cases.1)

pub returns-clause-ok : goal.returns-clause-ok
unfolding greatest_length
returns-clause-ok c =
    let short : length c.args.bytes.now ≤ greatest_length = omega (arith, c.if-bytes-gt-GREATEST_LENGTH.false) in
    let same = tokens_of_file c.args.bytes.now c.in-Ok.text.now c.as_slice.result.now _ c.in-Ok.ensures.cases.0 (c.as_slice.ensures.value ∙ c.in_ok-letters.ensures) c.without_mark-start.ensures.tokens in
    IfOk-weaker c.read_text.result _ _ (λ forms e. reads_whole c.args.bytes.now (stock c.args.symbols.now c.args.heap.now) (world [] forms.items (stock c.read_text.new.symbols c.read_text.new.heap)) (length c.args.bytes.now) short c.in-Ok.ensures.cases.1
    (ap (run (world [] [] (stock c.args.symbols.now c.args.heap.now)) (length c.args.bytes.now)) (sym same) ∙ e)) c.read_text.ensures.ok

pub returns-clause-refused : goal.returns-clause-refused
unfolding greatest_length
returns-clause-refused c =
    let short : length c.args.bytes.now ≤ greatest_length = omega (arith, c.if-bytes-gt-GREATEST_LENGTH.false) in
    let same = tokens_of_file c.args.bytes.now c.in-Ok.text.now c.as_slice.result.now _ c.in-Ok.ensures.cases.0 (c.as_slice.ensures.value ∙ c.in_ok-letters.ensures) c.without_mark-start.ensures.tokens in
    if_err_weaker c.read_text.result _ _ (λ fault h. if_some_weaker (fault_of fault) _ _ (λ r e. refuses_whole c.args.bytes.now (stock c.args.symbols.now c.args.heap.now) r short c.in-Ok.ensures.cases.1
    (ap (run (world [] [] (stock c.args.symbols.now c.args.heap.now)) (length c.args.bytes.now)) (sym same) ∙ e)) h) c.read_text.ensures.refused
