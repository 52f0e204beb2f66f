-- The body of a named function is the block of its name, within its bindings and the test of its keys.
use Rattle.std.specs.Prelude.{◌≡◌, ℕ, ◌==◌, ◌&&◌, Bool, true, List, [], ◌∷◌, Option, Some, None}
use Rattle.std.proofs.Common.{ap, sym, subst, ◌∙◌, arith}
use Rattle.std.proofs.lemmas.Bool.Decides.{nat_tests}
use Rattle.lisp_base.specs.declared.values.SymId.{SymId}
use Rattle.lisp_base.specs.declared.values.Val.{Val}
use Rattle.lisp_base.specs.Sort.{number_of}
use Rattle.lisp_base.specs.Tables.{Table, Object}
use Rattle.lambda_lists.specs.Trees.{refusal_tree}
use Rattle.lambda_lists.specs.LambdaLists.{Default, LambdaList, KeyForms, made, key_forms}
use Rattle.core_form.specs.Tree.{Core, Optionals, Lambda}
use Rattle.core_form.specs.Lawful.{is_refused_call, is_body_of, body_of}
use Rattle.declarations.specs.Declarations.{Declared}
use Rattle.expansion.specs.Scopes.{Scope}
use Rattle.expansion.specs.Steps.{World}
use Rattle.expansion.specs.Sketches.{Binder, Optional', Sketch, form, choice, block, within, Function, function_of}
use Rattle.expansion.specs.Bindings.{Contents, nested, let_in_order, plain_function, keyed_function}
use Rattle.expansion.specs.Expanding.{Bound, with_bound, with_all, with_some, BoundOptional}
use Rattle.expansion_laws.specs.Planned.{Shaped, without_keys, with_keys, Sketched, function_read}
use Rattle.expansion_laws.specs.Made.{Made, made_form, made_choice, made_bind, made_block, made_within, MadeDefaults, no_defaults, more_defaults, MadeLambda, made_lambda}
use Rattle.expansion_laws.proofs.DefinitionHeaps.{Longer, longer_on, refusal_built, bounds_longer, optionals_longer, some_longer, defaults_longer, sketch_longer}
use Rattle.expansion_laws.proofs.DefinitionReading.{IsRefusal, refusal_kept, refusal_reads}
use Rattle.expansion_laws.proofs.DefinitionRefusals.{OnlyFunction, IsApart, refusal_form}

-- ---- scopes

module _ {s : SymId} where
  only_bound : {sc : Scope} (b : Bound) → OnlyFunction s sc → OnlyFunction s (with_bound sc b)
  unfolding with_bound
  only_bound b h = record { number = h.number; are = h.are }

  only_all : {sc : Scope} (bs : List Bound) → OnlyFunction s sc → OnlyFunction s (with_all sc bs)
  only_all [] h = h
  only_all {sc = sc} (b ∷ bs) h = only_all {sc = with_bound sc b} bs (only_bound b h)

  only_some : {sc : Scope} (b : Option Bound) → OnlyFunction s sc → OnlyFunction s (with_some sc b)
  only_some None h = h
  only_some (Some b) h = only_bound b h

  only_last : {sc last : Scope} {os : List BoundOptional} {w after : World} {es : Optionals} → MadeDefaults sc os w es last after → OnlyFunction s sc → OnlyFunction s last
  only_last no_defaults h = h
  only_last (more_defaults {o = o} d k) h = only_last k (only_some o.supplied (only_bound o.bound h))

-- ---- the body of a function

-- the sketch of the body is made within the parameters
record BodyMade (s : SymId) (x : Sketch) (w : World) (l : Lambda) : Type 0 where
  pub scope : Scope
  pub before : World
  pub after : World
  pub made : Made scope x before (body_of l) after
  pub only : OnlyFunction s scope
  pub grows : Longer w.heap before.heap

body_made : {s : SymId} {sc : Scope} {required : List Binder} {optionals : List Optional'} {rest : Option Binder} {x : Sketch} {w after : World} {l : Lambda} →
    OnlyFunction s sc → MadeLambda sc (function_of required optionals rest x) w l after → BodyMade s x w l
body_made only (made_lambda {last = last} {v = v} {after = after} {xs = xs} {r = r} first second third fits h k) = record {
  scope = with_some last r;
  before = v;
  after = after;
  made = k;
  only = only_some r (only_last h (only_all xs only));
  grows = longer_on (longer_on (longer_on (bounds_longer first) (optionals_longer second)) (some_longer third)) (defaults_longer h);
}

same_number : (n : ℕ) → (n == n) ≡ true
same_number n = grind (arith, nat_tests)

module _ (s : SymId) (d others : Declared) (x : Sketch) where
  nested_body : (bs : List (SymId × Val)) {sc : Scope} {w after : World} {e : Core} → Made sc (nested d bs (within others (block s x))) w e after → is_body_of s e ≡ true
  nested_body [] (made_within (made_block fits h)) = same_number (number_of s)
  nested_body (b ∷ bs) (made_bind fits h k l) = nested_body bs l

  in_order_body : (bs : List (SymId × Val)) {sc : Scope} {w after : World} {e : Core} → Made sc (let_in_order d bs (within others (block s x))) w e after → is_body_of s e ≡ true
  unfolding let_in_order
  in_order_body [] (made_bind fits h k l) = nested_body [] l
  in_order_body (b ∷ bs) h = nested_body (b ∷ bs) h

  keyed_body : {sc : Scope} {w after : World} {e : Core} (test refusal : Val) (bs : List (SymId × Val)) → IsApart s → OnlyFunction s sc → IsRefusal w.heap refusal →
      Made sc (choice (form test) (let_in_order d bs (within others (block s x))) (form refusal)) w e after → is_body_of s e ≡ true
  keyed_body test refusal bs a only r (made_choice {b = b} {c = c} fits h k (made_form l)) =
      ap (λ (t : Bool). t && is_refused_call c) (in_order_body bs k) ∙ refusal_form a only (refusal_kept (longer_on (sketch_longer h) (sketch_longer k)) r) l

-- the form that refuses keys stands in the heap after it is made
refusal_stands : (g : SymId) (ds : List Default) (before table : Table) (old new : List Object) (k : KeyForms) → key_forms g ds before old ≡ Some (k, table, new) →
    IsRefusal new k.refusal
refusal_stands g ds before table old new k is =
    let r = refusal_built g ds before table old new k is in
    subst (λ (h : List Object). IsRefusal h k.refusal) (sym r.heap)
    (subst (λ (v : Val). IsRefusal (made (refusal_tree g) r.before).1 v) (sym r.refusal) (refusal_reads g r.before))

shaped_body : {s : SymId} {sc : Scope} {w u start after : World} {l : Lambda} {ll : LambdaList} {c : Contents} {f : Function} →
    IsApart s → OnlyFunction s sc → Longer u.heap start.heap → Shaped w (Some s) ll c f u → MadeLambda sc f start l after → is_body_of s (body_of l) ≡ true
unfolding plain_function keyed_function
shaped_body {s = s} {c = c} a only grows (without_keys absent) h = let b = body_made only h in nested_body s c.declared _ _ _ b.made
shaped_body {s = s} {w = w} {c = c} a only grows (with_keys ks rest first k table heap is by forms) h =
    let b = body_made only h in
    keyed_body s c.declared _ _ k.test k.refusal _ a b.only (refusal_kept (longer_on grows b.grows) (refusal_stands rest ks first table w.heap heap k forms)) b.made

pub sketched_body : {s : SymId} {sc own : Scope} {w u start after : World} {l : Lambda} {v : Val} {f : Function} →
    IsApart s → OnlyFunction s sc → Longer u.heap start.heap → Sketched own (Some s) w v f u → MadeLambda sc f start l after → is_body_of s (body_of l) ≡ true
sketched_body a only grows (function_read x vs ll c f u is parsed read by) h = shaped_body a only grows by h
