-- The names of functions of the prelude, and the scopes of their forms.
use Rattle.std.proofs.Common.{◌≡◌, ◌∙◌, ap, sym, subst, refl, ℕ, ◌<◌, Bool, true, false, List, [], ◌∷◌, length, map, Option, Some, None, arith}
use Rattle.std.specs.Prelude.{◌||◌, if◌then◌else◌}
use Rattle.std.specs.Bool.{MatchBool}
use Rattle.std.specs.List.{AllWithin, HoldsAt, list_any}
use Rattle.std.specs.Option.{option_and_then}
use Rattle.std.proofs.lemmas.List.{length-map}
use Rattle.std.proofs.lemmas.List.Folds.{list_any_at, list_any_none}
use Rattle.std.proofs.lemmas.List.Elements.{All-nil, All-cons}
use Rattle.lisp_base.specs.declared.base_symbols.TheConstants as at
use Rattle.lisp_base.specs.declared.values.SymId.{SymId}
use Rattle.lisp_base.specs.declared.values.Val.{Val}
use Rattle.lisp_base.specs.declared.values.Val.TheVariants.{Int, Char, Sym, Ref}
use Rattle.lisp_base.specs.Membership.{is_symbol_number}
use Rattle.lisp_base.specs.Sort.{number_of}
use Rattle.lisp_forms.specs.Conses.{cons_at}
use Rattle.core_form.specs.Tree.{Top}
use Rattle.core_form.specs.Lawful.{symbol_of, itself}
use Rattle.program_size.specs.declared.prelude_functions.PreludeFunction.{PreludeFunction}
use Rattle.declarations.specs.declared.policy.TheConstants as policies
use Rattle.expansion.specs.Scopes.{empty_scope, same_symbol}
use Rattle.expansion.specs.Steps.{World, gives, most_chain}
use Rattle.expansion.specs.Bindings.{is_among}
use Rattle.expansion.specs.Forms.{symbol_in}
use Rattle.file_expansion.specs.Files.{Helper, helper_name, name_after, helper_scope, is_reserved, file_place}
use Rattle.file_expansion.specs.Tops.{top_tree}
use Rattle.macroexpand.specs.Going.{helpers_from, names_from}
use Rattle.file_expansion.specs.Laws.{IsThere, IsSoundWorld, IsTopScope, IsSoundVariable, IsSoundCheck, MadeLawfully, TreesAreLawful, DefinesSymbol, PreludesDefine}
use Rattle.core_form.specs.Reading.{top_of}
use Rattle.macroexpand.specs.Preludes.{IsSoundHelper}
use Rattle.macroexpand.proofs.Sound.{car_there, cdr_there}

pub same_names : (fs : List PreludeFunction) → map (λ (h : Helper). h.name) (helpers_from fs) ≡ names_from fs
same_names [] = refl
same_names (f ∷ fs) = ap (λ (l : List SymId). f.name ∷ l) (same_names fs)

pub named_among : (fs : List PreludeFunction) (s : SymId) → list_any (λ (f : PreludeFunction). same_symbol s f.name) fs ≡ is_among (names_from fs) s
named_among [] s = refl
named_among (f ∷ fs) s = ap (λ (b : Bool). same_symbol s f.name || b) (named_among fs s)

-- whether a function has this name
abbrev is_named : SymId → PreludeFunction → Bool
is_named s f = same_symbol s f.name

abbrev pub Found : List PreludeFunction → SymId → Type 0
Found fs s = (k : ℕ) × (k < length fs) × HoldsAt (λ (f : PreludeFunction). same_symbol s f.name ≡ true) fs k

abbrev pub NoneFound : List PreludeFunction → SymId → Type 0
NoneFound fs s = AllWithin (λ (f : PreludeFunction). same_symbol s f.name ≡ false) fs 0 (length fs)

found : (fs : List PreludeFunction) (s : SymId) → Found fs s → list_any (is_named s) fs ≡ true
found [] s h = absurd (omega (arith, h.1))
found (f ∷ fs) s h = list_any_at (is_named s) (f ∷ fs) h.0 f h.1 (h.2 f)

none_found : (fs : List PreludeFunction) (s : SymId) → NoneFound fs s → list_any (is_named s) fs ≡ false
none_found fs s h = list_any_none (is_named s) fs (λ k d l. h k d (omega arith) l)

pub any_is : (fs : List PreludeFunction) (s : SymId) (r : Bool) → MatchBool r (Found fs s) (NoneFound fs s) → r ≡ list_any (λ (f : PreludeFunction). same_symbol s f.name) fs
any_is fs s true h = sym (found fs s h)
any_is fs s false h = sym (none_found fs s h)

-- whether a further form may not define a symbol, by the functions as they are held
pub refused_name : (fs : List PreludeFunction) (s : SymId) (b : Bool) → (is_among (names_from fs) s || is_reserved s) ≡ b →
    (is_among (map (λ (h : Helper). h.name) (helpers_from fs)) s || is_reserved s) ≡ b
refused_name fs s b e = ap (λ (l : List SymId). is_among l s || is_reserved s) (same_names fs) ∙ e

symbol_there : (w : World) (v : Val) (s : SymId) → symbol_in v ≡ Some s → IsThere w v → number_of s < length w.table.symbols
symbol_there w (Int z) s e h = cc
symbol_there w (Char c) s e h = cc
symbol_there w (Sym t) s e h = subst (λ (u : SymId). number_of u < length w.table.symbols) (same e) (omega (arith, h.datum (Sym t) itself, length-map w.table.symbols symbol_of))
  where
    same : ◌≡◌ {A = Option SymId} (Some t) (Some s) → t ≡ s
    same k = cc
symbol_there w (Ref o) s e h = cc

first_there : (w : World) (v : Val) (o : Option (Val × Val)) (s : SymId) → cons_at w.heap v ≡ o →
    option_and_then (λ (r : Val × Val). symbol_in r.0) o ≡ Some s → IsThere w v → number_of s < length w.table.symbols
first_there w v None s is e h = cc
first_there w v (Some r) s is e h = symbol_there w r.0 s e (car_there w v r is h)

after_there : (b : Bool) (w : World) (v : Val) (s : SymId) → (if b then option_and_then (λ (r : Val × Val). symbol_in r.0) (cons_at w.heap v) else None) ≡ Some s →
    IsThere w v → number_of s < length w.table.symbols
after_there true w v s e h = first_there w v (cons_at w.heap v) s refl e h
after_there false w v s e h = cc

named_there : (w : World) (v : Val) (o : Option (Val × Val)) (s : SymId) → cons_at w.heap v ≡ o → option_and_then (name_after w.heap) o ≡ Some s → IsThere w v →
    number_of s < length w.table.symbols
named_there w v None s is e h = cc
named_there w v (Some p) s is e h = after_there (is_symbol_number (number_of at.DEFUN) p.0) w p.1 s e (cdr_there w v p is h)

-- the name that a form of the prelude gives is a symbol of the world
pub name_there : (w : World) (v : Val) (s : SymId) → helper_name w.heap v ≡ Some s → IsThere w v → number_of s < length w.table.symbols
name_there w v s e h = named_there w v (cons_at w.heap v) s refl e h

pub helper_top : (w : World) (s : SymId) → number_of s < length w.table.symbols → IsTopScope w (helper_scope s)
helper_top w s l = record {
  place = All-cons (λ (t : SymId). number_of t < length w.table.symbols) s [] l (All-nil (λ (t : SymId). number_of t < length w.table.symbols));
  variables = All-nil (IsSoundVariable w);
  checks = All-nil (IsSoundCheck w);
  functions = refl;
  blocks = refl;
  tags = refl;
}

pub file_top : (w : World) (offset : ℕ) → IsTopScope w (empty_scope (file_place offset) false policies.FIRST_POLICY)
file_top w offset = record {
  place = All-nil (λ (t : SymId). number_of t < length w.table.symbols);
  variables = All-nil (IsSoundVariable w);
  checks = All-nil (IsSoundCheck w);
  functions = refl;
  blocks = refl;
  tags = refl;
}

-- the tree of a form of the prelude is lawful
pub helper_lawful : TreesAreLawful → (w u : World) (v : Val) (s : SymId) (t : Top) → IsSoundWorld w → IsThere w v → helper_name w.heap v ≡ Some s →
    top_tree most_chain (helper_scope s) v w ≡ gives t u → MadeLawfully w u t
helper_lawful laws w u v s t sound there name e =
    laws most_chain (helper_scope s) v w u t e sound (helper_top w s (name_there w v s name there)) there

neither_first : (a b : Bool) → (a || b) ≡ false → a ≡ false
neither_first true b h = h
neither_first false b h = refl

neither_second : (a b : Bool) → (a || b) ≡ false → b ≡ false
neither_second true b h = absurd (cc)
neither_second false b h = h

pub helper_sound : TreesAreLawful → PreludesDefine → (names : List SymId) (w u : World) (v : Val) (s : SymId) (f : PreludeFunction) → IsSoundWorld w → IsThere w v →
    helper_name w.heap v ≡ Some s → (is_among names s || is_reserved s) ≡ false → f.name ≡ s → top_tree most_chain (helper_scope s) v w ≡ gives (top_of f.form) u →
    IsSoundHelper names w u f
helper_sound laws define names w u v s f sound there name free is e =
    let made : MadeLawfully w u (top_of f.form) = helper_lawful laws w u v s (top_of f.form) sound there name e in
    let defined : DefinesSymbol s (top_of f.form) = define s v w u (top_of f.form) name (neither_second (is_among names s) (is_reserved s) free) e in
    record {
      grows = made.grows;
      world = made.sound;
      tree = made.tree;
      defines = record { is = defined.is; name = is ∙ defined.name };
      new = subst (λ (t : SymId). is_among names t ≡ false) (sym is) (neither_first (is_among names s) (is_reserved s) free);
    }
