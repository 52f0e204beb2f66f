-- Why a source isn't compiled, by the texts of its refusals.
use Rattle.std.proofs.Common.{◌≡◌, ℕ, List, Result, Ok, Err, IfOk, sym, subst, ap, ◌∙◌}
use Rattle.std.specs.Fmt.{decimal}
use Rattle.lisp_base.specs.Tables.{Symbol, Table}
use Rattle.lisp_base.specs.declared.values.Place.{Place}
use Rattle.core_form.specs.Lawful.{Parts}
use Rattle.expansion.specs.declared.kind.ExpandKind.{ExpandKind}
use Rattle.lisp_reader.specs.declared.fault.ReadKind.{ReadKind}
use Rattle.lisp_reader.specs.Reading.{refusal}
use Rattle.lisp_reader.specs.Answers.{IsRefusedAt}
use Rattle.source_programs.specs.Programs.{first_stock, IsUnexpanded}
use Rattle.compiler.specs.Emitted.{IsUnbuilt}
use Rattle.pyc_cli.specs.Making.{read_kind_text, expand_kind_text, not_yet_text, place_text, refusal_text, IsNoProgram, unread, unexpanded, IsRefused, not_yet}

-- what follows of a text, where there is one
pub of_text : {S E : Type 0} {P Q : S → Type 0} (r : Result S E) → ((text : S) → P text → Q text) → IfOk r P → IfOk r Q
of_text (Ok text) follows is = follows text is
of_text (Err e) follows is = tt

pub is_unread : (source text : List ℕ) (kind : ReadKind) (offset : ℕ) → text ≡ refusal_text (read_kind_text kind) (decimal offset) → IsRefusedAt source first_stock (refusal kind offset) → IsNoProgram source text
is_unread source text kind offset e h = subst (λ (t : List ℕ). IsNoProgram source t) (sym e) (unread kind offset h)

pub is_unexpanded : (source text : List ℕ) (kind : ExpandKind) (place : Place) (symbols : Table) → text ≡ refusal_text (expand_kind_text kind) (place_text symbols.symbols place) → IsUnexpanded source kind place symbols → IsNoProgram source text
is_unexpanded source text kind place symbols e h = subst (λ (t : List ℕ). IsNoProgram source t) (sym e) (unexpanded kind place symbols h)

pub is_not_yet : (source text : List ℕ) (place : Place) (program : Parts) (symbols : List Symbol) → symbols ≡ program.symbols → text ≡ refusal_text not_yet_text (place_text symbols place) → IsUnbuilt source place program → IsRefused source text
is_not_yet source text place program symbols same e h =
    subst (λ (t : List ℕ). IsRefused source t) (sym (e ∙ ap (λ (s : List Symbol). refusal_text not_yet_text (place_text s place)) same)) (not_yet place program h)
