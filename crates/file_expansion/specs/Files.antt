-- The program that the forms of a file expand to, with the prelude, or the file's first refusal (this project's own).
use Rattle.std.specs.Prelude.{◌≡◌, ℕ, Bool, true, false, ◌||◌, if◌then◌else◌, List, [], ◌∷◌, ◌++◌, map, Option, None}
use Rattle.std.specs.Option.{option_and_then}
use Rattle.lisp_base.specs.declared.base_symbols.TheConstants as at
use Rattle.lisp_base.specs.declared.values.Place.{Place}
use Rattle.lisp_base.specs.declared.values.Place.TheVariants as places
use Rattle.lisp_base.specs.declared.values.SymId.{SymId}
use Rattle.lisp_base.specs.declared.values.Val.{Val}
use Rattle.lisp_base.specs.declared.values.Val.TheVariants.{Sym}
use Rattle.lisp_base.specs.Membership.{is_symbol_number}
use Rattle.lisp_base.specs.Sort.{number_of}
use Rattle.lisp_base.specs.Tables.{Object, restarted}
use Rattle.lisp_forms.specs.Conses.{cons_at, place_at}
use Rattle.lisp_reader.specs.declared.forms.TopRead.{TopRead}
use Rattle.lisp_reader.specs.declared.fault.ReadKind.{ReadKind}
use Rattle.lisp_reader.specs.declared.fault.ReadKind.TheVariants as read_kind
use Rattle.lisp_reader.specs.Building.{Stock}
use Rattle.lisp_reader.specs.Reading.{Refusal}
use Rattle.lisp_reader.specs.Answers.{Reads, IsRefusedAt}
use Rattle.core_form.specs.Tree.{Top}
use Rattle.core_form.specs.Reading.{tops_of}
use Rattle.core_form.specs.Lawful.{Parts}
use Rattle.prelude.specs.Text.{prelude_text}
use Rattle.program_size.specs.Mentions.{Function, Mentions}
use Rattle.program_size.specs.Sizes.{Chosen}
use Rattle.declarations.specs.declared.policy.TheConstants as policies
use Rattle.expansion.specs.declared.kind.ExpandKind.{ExpandKind}
use Rattle.expansion.specs.declared.kind.ExpandKind.TheVariants as kind
use Rattle.expansion.specs.Scopes.{Scope, empty_scope, same_symbol, value_or}
use Rattle.expansion.specs.Steps.{World, Answer, gives, refused, Step, ◌>>=◌, pure, refuse, expect, look, most_chain}
use Rattle.expansion.specs.Bindings.{is_among}
use Rattle.expansion.specs.Forms.{symbol_in}
use Rattle.file_expansion.specs.Tops.{measured, top_tree, Pending, pending, Expands}

-- ---- the prelude

-- a function of the prelude: its name, and the form that defines it
pub record Helper : Type 0 where
  pub name : SymId
  pub form : Top

abbrev pub helper : SymId → Top → Helper
helper s t = record { name = s; form = t }

abbrev pub functions_of : List Helper → List Function
functions_of hs = map (λ h. record { name = h.name; form = measured h.form }) hs

-- the name in a list of DEFUN and more
abbrev pub name_after : List Object → Val × Val → Option SymId
name_after heap p =
    if is_symbol_number (number_of at.DEFUN) p.0 then option_and_then (λ (r : Val × Val). symbol_in r.0) (cons_at heap p.1) else None

abbrev pub helper_name : List Object → Val → Option SymId
helper_name heap v = option_and_then (name_after heap) (cons_at heap v)

-- the place of all nodes of a function is its name
abbrev pub helper_scope : SymId → Scope
helper_scope s = empty_scope (places.Prelude s) true policies.FIRST_POLICY

-- No form of the prelude may define FUNCALL, LAMBDA or FUNCTION: a function that takes keys refuses others by a call of (LAMBDA ()) by FUNCALL, and
-- within a definition of one of these names that call would be of the function defined there.
abbrev pub is_reserved : SymId → Bool
is_reserved s = same_symbol at.FUNCALL s || (same_symbol at.LAMBDA s || same_symbol at.FUNCTION s)

-- each other form of the prelude defines a function, none of them twice
unfoldable pub helper_at : List Helper → Val → SymId → Step Helper
helper_at done v s =
    if is_among (map (λ h. h.name) done) s || is_reserved s
    then refuse kind.BadForm (helper_scope s)
    else (top_tree most_chain (helper_scope s) v >>= λ t. pure (helper s t))

-- the function that a form of the prelude defines, beside those so far
unfoldable pub helper_of : List Helper → Val → Step Helper
helper_of done v = look (λ w. helper_name w.heap v) >>= expect (helper_scope at.DEFUN) >>= helper_at done v

unfoldable pub helpers : List Helper → List TopRead → Step (List Helper)
helpers done [] = pure done
helpers done (f ∷ fs) = helper_of done f.form >>= λ h. helpers (done ++ h ∷ []) fs

-- ---- files

abbrev pub first_world : Stock → World
first_world s = record {
  table = s.symbols;
  heap = s.objects;
  specials = [];
  declaimed = [];
  policy = policies.FIRST_POLICY;
  next = 1;
  functions = 0;
  nodes = 0;
}

-- fresh symbols are numbered from 1 again after the prelude
abbrev pub after_prelude : World → World
after_prelude w = record w { table = restarted w.table }

abbrev pub file_place : ℕ → Place
file_place offset = places.File offset 0

abbrev pub file_form : TopRead → Pending
file_form f = pending (empty_scope (file_place f.offset) false policies.FIRST_POLICY) false most_chain f.form

-- the place of the first form, or of the start of the file
abbrev pub first_place : List Object → List TopRead → Place
first_place heap [] = file_place 0
first_place heap (f ∷ fs) = value_or (place_at heap f.form) (file_place f.offset)

abbrev pub Trees : Type 0
Trees = List Helper × List Top

-- a prelude that is refused would be a bad form at the start, but where symbols have no room
abbrev pub prelude_refused : List Object → List TopRead → (is_full : Bool) → Answer Trees
prelude_refused heap forms true = refused kind.TooManySymbols (first_place heap forms)
prelude_refused heap forms false = refused kind.BadForm (file_place 0)

abbrev pub is_full : ExpandKind → Bool
is_full kind.TooManySymbols = true
is_full other = false

abbrev pub is_unread : ReadKind → Bool
is_unread read_kind.TooManySymbols = true
is_unread other = false

abbrev pub behind : List Helper → Answer (List Top) → Answer Trees
behind hs (gives ts w) = gives (hs, ts) w
behind hs (refused k place) = refused k place

-- The trees of the prelude and of a file: the prelude is read with the symbols and objects of the file, and expanded before it.
pub data Answers (forms : List TopRead) (before : Stock) : Answer Trees → Type 0 where
  unread : (r : Refusal) → IsRefusedAt prelude_text before r
      → Answers forms before (prelude_refused before.objects forms (is_unread r.kind))
  unexpanded : (read : List TopRead × Stock) (k : ExpandKind) (place : Place) → Reads prelude_text before read
      → helpers [] read.0 (first_world read.1) ≡ refused k place
      → Answers forms before (prelude_refused before.objects forms (is_full k))
  expanded : (read : List TopRead × Stock) (hs : List Helper) (w : World) (answer : Answer (List Top)) → Reads prelude_text before read
      → helpers [] read.0 (first_world read.1) ≡ gives hs w
      → Expands (functions_of hs) (after_prelude w) [] (map file_form forms) answer
      → Answers forms before (behind hs answer)

-- a program's functions of the prelude are those that it mentions
pub record IsProgram (forms : List TopRead) (before : Stock) (p : Parts) : Type 0 where
  pub prelude : List Helper
  pub held : List Helper
  pub trees : List Top
  pub world : World
  pub answers : Answers forms before (gives (prelude, trees) world)
  pub mentioned : Chosen (λ h. Mentions world.heap (functions_of prelude) (map measured trees) (Sym h.name)) prelude held
  pub prelude_is : tops_of p.prelude ≡ map (λ h. h.form) held
  pub forms_are : tops_of p.forms ≡ trees
  pub heap_is : p.heap ≡ world.heap
  pub symbols_are : p.symbols ≡ world.table.symbols
