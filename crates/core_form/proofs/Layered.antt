-- A program is a lawful layer by fuel.
use Rattle.std.proofs.Common.{◌≡◌, ◌≢◌, refl, ap, sym, ◌∙◌, ℕ, suc, ◌≤◌, inl, inr, List, [], ◌∷◌, ◌++◌, length, arith}
use Rattle.std.specs.Prelude.{take, drop}
use Rattle.lisp_base.specs.declared.values.Val.{Val}
use Rattle.layers.specs.Input.{Input}
use Rattle.layers.specs.Shown.{Seen, Runs, Ended, IsFull, NeedsNoLess, IsLater}
use Rattle.layers.specs.Shown as shown
use Rattle.layers.specs.Layer.{IsLawful}
use Rattle.core_form.specs.Tree.{Top}
use Rattle.core_form.specs.State.{Symbol}
use Rattle.core_form.specs.Run.{Outcome, Gives, Leaves, Fails, NotYet}
use Rattle.core_form.specs.Eval.{Program, evaluate, ending_of, Unfinished, Astray, counts_of}
use Rattle.core_form.specs.Growth.{CountsGrow, Reaches}
use Rattle.core_form.specs.AsLayer.{status_of, seen_of, program_layer, program_of_forms}
use Rattle.core_form.specs.Laws.{ProgramsAreByFuel, ProgramsAreNeverFull, ProgramsNeverGoAstray, ProgramIsItsForms, FormsAreByFuel, FormsAreNeverFull}
use Rattle.core_form.proofs.Fuel.{more_fuel, output_stays, counters_stay, never_astray}
use Rattle.core_form.proofs.Taken.{takes_within, unfinished_took_all, enough_was_taken, taken_stays}

pub needs_grow : (symbols : List Symbol) (o w : Outcome Val) → CountsGrow (counts_of o) (counts_of w) → NeedsNoLess (seen_of symbols w) (seen_of symbols o)
needs_grow symbols o w g = record {
  work = omega (arith, g.cost, g.begun, g.extra, g.looked, g.walked);
  heap = omega (arith, g.heap_words, g.boxes);
  stack = omega (arith, g.stack_words, g.held);
}

pub later : (p : Program) (i : Input) (n m : ℕ) → n ≤ m → IsLater (program_layer p i n) (program_layer p i m)
later p i n m le = record {
  output = output_stays p i.letters n m le;
  fuel = taken_stays p i.letters n m le;
  needs = needs_grow p.symbols (evaluate p i.letters n) (evaluate p i.letters m) (counters_stay p i.letters n m le);
}

-- what no longer runs is the same with more
pub stays_by : (symbols : List Symbol) (o w : Outcome Val) → Reaches o w → status_of symbols o ≢ Runs → w ≡ o
stays_by symbols (Gives v s) w r over = r
stays_by symbols (Leaves x s) w r over = r
stays_by symbols (Fails x q s) w r over = r
stays_by symbols (NotYet s) w r over = absurd (over refl)

pub runs_unfinished : (symbols : List Symbol) (o : Outcome Val) → status_of symbols o ≡ Runs → ending_of o ≡ Unfinished
runs_unfinished symbols (Gives v s) e = absurd (cc)
runs_unfinished symbols (Leaves x s) e = absurd (cc)
runs_unfinished symbols (Fails x q s) e = absurd (cc)
runs_unfinished symbols (NotYet s) e = refl

pub lawful : (p : Program) → IsLawful (program_layer p)
lawful p = record {
  later = λ i k. later p i k (suc k) (omega arith);
  stays = λ i k over. ap (λ (o : Outcome Val). seen_of p.symbols o)
      (stays_by p.symbols (evaluate p i.letters k) (evaluate p i.letters (suc k)) (more_fuel p i.letters k (suc k) (omega arith)) over);
}

pub programs_are_by_fuel : ProgramsAreByFuel
programs_are_by_fuel p = record {
  lawful = lawful p;
  within = λ i n. takes_within p i.letters n;
  spent = λ i n runs. unfinished_took_all p i.letters n (runs_unfinished p.symbols (evaluate p i.letters n) runs);
  enough = λ i n. ap (λ (o : Outcome Val). seen_of p.symbols o) (enough_was_taken p i.letters n);
}

pub never_full : (symbols : List Symbol) (o : Outcome Val) → ¬ IsFull (seen_of symbols o)
never_full symbols (Gives v s) (inl h) = cc
never_full symbols (Gives v s) (inr h) = cc
never_full symbols (Leaves x s) (inl h) = cc
never_full symbols (Leaves x s) (inr h) = cc
never_full symbols (Fails x q s) (inl h) = cc
never_full symbols (Fails x q s) (inr h) = cc
never_full symbols (NotYet s) (inl h) = cc
never_full symbols (NotYet s) (inr h) = cc

pub programs_are_never_full : ProgramsAreNeverFull
programs_are_never_full p i k = never_full p.symbols (evaluate p i.letters k)

pub astray_by : (symbols : List Symbol) (o : Outcome Val) → ending_of o ≢ Astray → status_of symbols o ≢ Ended shown.Astray
astray_by symbols (Gives v s) h e = cc
astray_by symbols (Leaves x s) h e = h refl
astray_by symbols (Fails x q s) h e = cc
astray_by symbols (NotYet s) h e = cc

pub programs_never_go_astray : ProgramsNeverGoAstray
programs_never_go_astray p i k = astray_by p.symbols (evaluate p i.letters k) (never_astray p i.letters k)

-- ---- a program and its forms

pub taken_first : (xs ys : List Top) → take (length xs) (xs ++ ys) ≡ xs
taken_first [] ys = refl
taken_first (x ∷ xs) ys = ap (λ (zs : List Top). x ∷ zs) (taken_first xs ys)

pub dropped_first : (xs ys : List Top) → drop (length xs) (xs ++ ys) ≡ ys
dropped_first [] ys = refl
dropped_first (x ∷ xs) ys = dropped_first xs ys

abbrev layer_with : Program → List Top → List Top → Input → ℕ → Seen
layer_with p prelude forms = program_layer (record { prelude = prelude; forms = forms; heap = p.heap; symbols = p.symbols })

pub program_is_its_forms : ProgramIsItsForms
program_is_its_forms p =
    ap (λ (xs : List Top). layer_with p xs p.forms) (sym (taken_first p.prelude p.forms)) ∙
    ap (λ (ys : List Top). layer_with p (take (length p.prelude) (p.prelude ++ p.forms)) ys) (sym (dropped_first p.prelude p.forms))

pub forms_are_by_fuel : FormsAreByFuel
forms_are_by_fuel heap symbols prelude forms = programs_are_by_fuel (program_of_forms heap symbols prelude forms)

pub forms_are_never_full : FormsAreNeverFull
forms_are_never_full heap symbols prelude forms = programs_are_never_full (program_of_forms heap symbols prelude forms)
