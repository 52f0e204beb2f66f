-- The functions of the prelude one after another.
use Rattle.std.proofs.Common.{◌≡◌, ◌≢◌, ◌∙◌, ap, sym, subst, refl, ℕ, ◌<◌, ◌≤◌, ◌+◌, Bool, true, false, List, [], ◌∷◌, ◌++◌, map, drop, length, get_or, Option, Some, None, arith}
use Rattle.std.specs.Prelude.{◌||◌, ◌==◌}
use Rattle.std.specs.List.{All}
use Rattle.std.proofs.lemmas.Bool.Decides.{nat_tests}
use Rattle.std.proofs.lemmas.List.{map-append, drop_more, at_drop_all}
use Rattle.std.proofs.lemmas.List.Elements.{All-nil, All-cons, All-push}
use Rattle.std.proofs.lemmas.List.Quantifiers.{all_pairs_push}
use Rattle.lisp_base.specs.declared.base_symbols.TheConstants as at
use Rattle.lisp_base.specs.declared.values.Place.TheVariants as places
use Rattle.lisp_base.specs.declared.values.SymId.{SymId}
use Rattle.lisp_base.specs.declared.values.Val.{Val}
use Rattle.lisp_base.specs.Sort.{number_of}
use Rattle.lisp_reader.specs.declared.forms.TopRead.{TopRead}
use Rattle.core_form.specs.Tree.{Top}
use Rattle.core_form.specs.Reading.{core_of, top_of}
use Rattle.closed_copies.specs.Copies.{closed_copies}
use Rattle.program_size.specs.declared.prelude_functions.PreludeFunction.{PreludeFunction}
use Rattle.program_size.specs.Mentions.{Function, function_of, functions_of as counted_functions}
use Rattle.expansion.specs.declared.kind.ExpandKind.TheVariants as kind
use Rattle.expansion.specs.Scopes.{same_symbol}
use Rattle.expansion.specs.Steps.{World, Answer, gives, refused, Step, and_then, expect, most_chain}
use Rattle.expansion.specs.Bindings.{is_among}
use Rattle.form_expander.specs.Stepping.{steps}
use Rattle.form_expander.specs.declared.fault.Fault.{Fault}
use Rattle.form_expander.specs.Outcomes.{Refuses}
use Rattle.file_expansion.specs.Tops.{measured, top_tree}
use Rattle.file_expansion.specs.Files.{Helper, helper, functions_of, helper_name, helper_scope, is_reserved, helper_at, helper_of, helpers}
use Rattle.file_expansion.specs.Laws.{IsLawfulTree}
use Rattle.macroexpand.specs.Going.{helper_from, helpers_from, names_from, DefinesName, AreFunctions}
use Rattle.macroexpand.proofs.Steps.{given_on, refused_on, refused_along}

-- ---- one function

module _ (done : List Helper) (v : Val) (w : World) where
  found_steps : (o : Option SymId) → helper_name w.heap v ≡ o → helper_of done v w ≡ and_then (expect (helper_scope at.DEFUN) o w) (helper_at done v)
  unfolding helper_of steps
  found_steps o is = ap (λ (x : Option SymId). and_then (expect (helper_scope at.DEFUN) x w) (helper_at done v)) is

  pub helper_none : helper_name w.heap v ≡ None → helper_of done v w ≡ refused kind.BadForm (places.Prelude at.DEFUN)
  unfolding steps
  helper_none is = found_steps None is

  some_steps : (s : SymId) → helper_name w.heap v ≡ Some s → helper_of done v w ≡ helper_at done v s w
  unfolding steps
  some_steps s is = found_steps (Some s) is

  pub helper_twice : (s : SymId) → helper_name w.heap v ≡ Some s → (is_among (map (λ h. h.name) done) s || is_reserved s) ≡ true →
      helper_of done v w ≡ refused kind.BadForm (places.Prelude s)
  unfolding helper_at steps
  helper_twice s is among = some_steps s is ∙ by
    where
      by : helper_at done v s w ≡ refused kind.BadForm (places.Prelude s)
      by = rw among

  abbrev named : SymId → Top → Step Helper
  named s t = λ u. gives (helper s t) u

  new_steps : (s : SymId) → helper_name w.heap v ≡ Some s → (is_among (map (λ h. h.name) done) s || is_reserved s) ≡ false →
      helper_of done v w ≡ and_then (top_tree most_chain (helper_scope s) v w) (named s)
  unfolding helper_at steps
  new_steps s is among = some_steps s is ∙ by
    where
      by : helper_at done v s w ≡ and_then (top_tree most_chain (helper_scope s) v w) (named s)
      by = rw among

  pub helper_given : (s : SymId) (t : Top) (u : World) → helper_name w.heap v ≡ Some s → (is_among (map (λ h. h.name) done) s || is_reserved s) ≡ false →
      top_tree most_chain (helper_scope s) v w ≡ gives t u → helper_of done v w ≡ gives (helper s t) u
  helper_given s t u is among e = new_steps s is among ∙ given_on (top_tree most_chain (helper_scope s) v w) (named s) t u e

  pub helper_refused : (s : SymId) (e : Fault) → helper_name w.heap v ≡ Some s → (is_among (map (λ h. h.name) done) s || is_reserved s) ≡ false →
      Refuses (top_tree most_chain (helper_scope s) v w) e → Refuses (helper_of done v w) e
  helper_refused s e is among h =
      refused_along (helper_of done v w) _ e (new_steps s is among) (refused_on (top_tree most_chain (helper_scope s) v w) (named s) e h)

-- ---- all of them

abbrev rest_of : List Helper → List TopRead → Helper → Step (List Helper)
rest_of done fs h = helpers (done ++ h ∷ []) fs

helpers_steps : (done : List Helper) (f : TopRead) (fs : List TopRead) (w : World) → helpers done (f ∷ fs) w ≡ and_then (helper_of done f.form w) (rest_of done fs)
unfolding helpers steps
helpers_steps done f fs w = refl

helpers_end : (done : List Helper) (w : World) → helpers done [] w ≡ gives done w
unfolding helpers steps
helpers_end done w = refl

front : (forms : List TopRead) (i : ℕ) (f : TopRead) → i < length forms → f ≡ get_or forms i f → drop i forms ≡ f ∷ drop (i + 1) forms
front forms i f inside is = drop_more forms i f inside ∙ ap (λ (r : TopRead). r ∷ drop (i + 1) forms) (sym is)

module _ (forms : List TopRead) (i : ℕ) (w : World) (all : Answer (List Helper)) (done : List Helper) (so_far : helpers done (drop i forms) w ≡ all) where
  along : (f : TopRead) → i < length forms → f ≡ get_or forms i f → all ≡ and_then (helper_of done f.form w) (rest_of done (drop (i + 1) forms))
  along f inside is =
      sym so_far ∙ (ap (λ (l : List TopRead). helpers done l w) (front forms i f inside is) ∙ helpers_steps done f (drop (i + 1) forms) w)

  pub helpers_on : (f : TopRead) (h : Helper) (u : World) → i < length forms → f ≡ get_or forms i f → helper_of done f.form w ≡ gives h u →
      helpers (done ++ h ∷ []) (drop (i + 1) forms) u ≡ all
  helpers_on f h u inside is e = sym (along f inside is ∙ given_on (helper_of done f.form w) (rest_of done (drop (i + 1) forms)) h u e)

  pub helpers_refused : (f : TopRead) (e : Fault) → i < length forms → f ≡ get_or forms i f → Refuses (helper_of done f.form w) e → Refuses all e
  helpers_refused f e inside is h = refused_along all _ e (along f inside is) (refused_on (helper_of done f.form w) (rest_of done (drop (i + 1) forms)) e h)

  pub helpers_made : length forms ≤ i → all ≡ gives done w
  helpers_made past = sym so_far ∙ (at_drop_all (λ (l : List TopRead). helpers done l w) forms i past ∙ helpers_end done w)

-- ---- what is so of them

same_function : (f : PreludeFunction) → f.copies ≡ closed_copies (core_of f.form.core) → counted_functions (f ∷ []) ≡ functions_of (helpers_from (f ∷ []))
same_function f is = ap (λ (n : ℕ). record { name = f.name; form = record { core = core_of f.form.core; nodes = f.form.nodes; copies = n } } ∷ []) is

pub measured_on : (fs : List PreludeFunction) (f : PreludeFunction) → counted_functions fs ≡ functions_of (helpers_from fs) →
    f.copies ≡ closed_copies (core_of f.form.core) → counted_functions (fs ++ f ∷ []) ≡ functions_of (helpers_from (fs ++ f ∷ []))
measured_on fs f h is =
    let left : counted_functions (fs ++ f ∷ []) ≡ counted_functions fs ++ counted_functions (f ∷ []) = map-append function_of fs (f ∷ []) in
    let right : functions_of (helpers_from (fs ++ f ∷ [])) ≡ functions_of (helpers_from fs) ++ functions_of (helpers_from (f ∷ [])) =
    ap functions_of (map-append helper_from fs (f ∷ [])) ∙ map-append (λ (k : Helper). record { name = k.name; form = measured k.form }) (helpers_from fs) (helpers_from (f ∷ [])) in
    let one = same_function f is in
    left ∙ (ap (λ (l : List Function). l ++ counted_functions (f ∷ [])) h ∙ (ap (λ (l : List Function). functions_of (helpers_from fs) ++ l) one ∙ sym right))

apart_by : (b : Bool) (f : PreludeFunction) (fs : List PreludeFunction) (s : SymId) → same_symbol s f.name ≡ b → (b || is_among (names_from fs) s) ≡ false → f.name ≢ s
apart_by true f fs s is h = λ e. cc
apart_by false f fs s is h = λ e. differ (number_of s) (is' e)
  where
    is' : f.name ≡ s → (number_of s == number_of s) ≡ false
    is' e = subst (λ (t : SymId). same_symbol s t ≡ false) e is

    differ : (n : ℕ) → (n == n) ≡ false → ⊥
    differ n k = grind (arith, nat_tests, k)

all_apart : (fs : List PreludeFunction) (s : SymId) → is_among (names_from fs) s ≡ false → All (λ f. f.name ≢ s) fs
all_apart [] s h = All-nil (λ (f : PreludeFunction). f.name ≢ s)
all_apart (f ∷ fs) s h = All-cons (λ (g : PreludeFunction). g.name ≢ s) f fs (apart_by (same_symbol s f.name) f fs s refl h) (all_apart fs s (rest (same_symbol s f.name) h))
  where
    rest : (b : Bool) → (b || is_among (names_from fs) s) ≡ false → is_among (names_from fs) s ≡ false
    rest true h = cc
    rest false h = h

pub functions_on : (w : World) (fs : List PreludeFunction) (f : PreludeFunction) → AreFunctions w fs → IsLawfulTree w (top_of f.form) → DefinesName f →
    is_among (names_from fs) f.name ≡ false → AreFunctions w (fs ++ f ∷ [])
functions_on w fs f h tree define new = record {
  lawful = All-push (λ (g : PreludeFunction). IsLawfulTree w (top_of g.form)) fs f h.lawful tree;
  define = All-push DefinesName fs f h.define define;
  once = all_pairs_push (λ (g k : PreludeFunction). g.name ≢ k.name) fs f h.once (λ k d l. all_apart fs f.name new k d l);
}
