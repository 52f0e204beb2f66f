-- What is there and sound at the top of a file, and the laws of trees that a program's lawfulness rests on (this project's own).
use Rattle.std.specs.Prelude.{◌≡◌, ℕ, ◌<◌, false, List, [], ◌++◌, length, All, Option, Some, None}
use Rattle.lisp_base.specs.declared.values.Place.{Place}
use Rattle.lisp_base.specs.declared.values.SymId.{SymId}
use Rattle.lisp_base.specs.declared.values.Val.{Val}
use Rattle.lisp_base.specs.Lawful.{IsLawful as IsLawfulType}
use Rattle.lisp_base.specs.Sort.{number_of}
use Rattle.lisp_base.specs.Tables.{Symbol, Object, BeginsWithNames}
use Rattle.lisp_forms.specs.Conses.{place_at}
use Rattle.lisp_reader.specs.declared.forms.TopRead.{TopRead}
use Rattle.lisp_reader.specs.Building.{Stock}
use Rattle.lisp_reader.specs.Answers.{Reads}
use Rattle.core_form.specs.Tree.{Top}
use Rattle.core_form.specs.Checked.{TopIsBuilt}
use Rattle.core_form.specs.Eval.{Program}
use Rattle.core_form.specs.Lawful.{parts_of, meant, place_symbols, IsDatum, Reaches, TopIsLawful, IsDefinition}
use Rattle.declarations.specs.Declarations.{Typed, Declared}
use Rattle.expansion.specs.declared.heads.Target.{Target}
use Rattle.expansion.specs.declared.heads.Target.TheVariants.{Lexical, Global}
use Rattle.expansion.specs.Scopes.{Scope, Check, of_binding, of_uses, rebound}
use Rattle.expansion.specs.Steps.{World, gives, most_chain}
use Rattle.expansion.specs.Bindings.{Contents, contents_of}
use Rattle.file_expansion.specs.Tops.{top_tree}
use Rattle.file_expansion.specs.Files.{first_world, helper_name, helper_scope, is_reserved}

-- ---- values that are there

-- the objects and symbols of a world, as the meaning of a program sees them
abbrev pub program_at : World → Program
program_at w = meant (parts_of [] [] w.heap w.table.symbols)

abbrev pub AreSymbols : World → List SymId → Type 0
AreSymbols w ss = All (λ s. number_of s < length w.table.symbols) ss

abbrev pub symbols_here : Option Place → List SymId
symbols_here None = []
symbols_here (Some place) = place_symbols place

-- all that a value reaches is in the world and is data of the language, and so are the symbols of the places of the conses there
pub record IsThere (w : World) (v : Val) : Type 0 where
  pub datum : (u : Val) → Reaches (program_at w) v u → IsDatum (program_at w) u
  pub places : (u : Val) → Reaches (program_at w) v u → AreSymbols w (symbols_here (place_at w.heap u))

-- symbols and objects were added
pub record Grows (old new : World) : Type 0 where
  pub symbols : (more : List Symbol) × (new.table.symbols ≡ old.table.symbols ++ more)
  pub objects : (more : List Object) × (new.heap ≡ old.heap ++ more)

-- ---- worlds and scopes of the top

abbrev pub IsSoundTyped : World → Typed → Type 0
IsSoundTyped w d = (number_of d.variable < length w.table.symbols) × IsLawfulType w.table d.spec

pub record IsSoundWorld (w : World) : Type 0 where
  pub begins : BeginsWithNames w.table.symbols
  pub specials : AreSymbols w w.specials
  pub declaimed : All (IsSoundTyped w) w.declaimed

pub record IsSoundDeclared (w : World) (d : Declared) : Type 0 where
  pub types : All (IsSoundTyped w) d.types
  pub specials : AreSymbols w d.specials

-- at the top names of variables mean the values of symbols
abbrev pub IsSoundTarget : World → Target → Type 0
IsSoundTarget w (Lexical n) = ⊥
IsSoundTarget w (Global s) = number_of s < length w.table.symbols

abbrev pub IsSoundVariable : World → SymId × Target → Type 0
IsSoundVariable w p = (number_of p.0 < length w.table.symbols) × IsSoundTarget w p.1

abbrev pub IsSoundCheck : World → Check → Type 0
IsSoundCheck w (of_binding t spec) = IsSoundTarget w t × IsLawfulType w.table spec
IsSoundCheck w (of_uses t spec) = IsSoundTarget w t × IsLawfulType w.table spec
IsSoundCheck w (rebound s) = number_of s < length w.table.symbols

-- a scope of the top: no variable has a number, and there is no local function, block or tag
pub record IsTopScope (w : World) (sc : Scope) : Type 0 where
  pub place : AreSymbols w (place_symbols sc.place)
  pub variables : All (IsSoundVariable w) sc.variables
  pub checks : All (IsSoundCheck w) sc.checks
  pub functions : sc.functions ≡ []
  pub blocks : sc.blocks ≡ []
  pub tags : sc.tags ≡ []

-- ---- the laws

pub record IsLawfulTree (w : World) (t : Top) : Type 0 where
  pub built : TopIsBuilt t
  pub lawful : TopIsLawful (program_at w) t

pub record MadeLawfully (before after : World) (t : Top) : Type 0 where
  pub grows : Grows before after
  pub sound : IsSoundWorld after
  pub tree : IsLawfulTree after t

-- the tree of a form that is there is lawful
abbrev pub TreesAreLawful : Type 0
TreesAreLawful =
    (chain : ℕ) (sc : Scope) (v : Val) (w after : World) (t : Top) → top_tree chain sc v w ≡ gives t after →
    IsSoundWorld w → IsTopScope w sc → IsThere w v → MadeLawfully w after t

pub record ReadSoundly (before after : World) (c : Contents) : Type 0 where
  pub same : after ≡ before
  pub declared : IsSoundDeclared before c.declared
  pub forms : All (IsThere before) c.forms

-- the declarations and forms of a body that is there are there
abbrev pub BodiesAreSound : Type 0
BodiesAreSound =
    (sc : Scope) (vs : List Val) (w after : World) (c : Contents) → contents_of sc vs w ≡ gives c after →
    IsSoundWorld w → All (IsThere w) vs → ReadSoundly w after c

-- what is read is there
abbrev pub TextsAreThere : Type 0
TextsAreThere =
    (bytes : List ℕ) (before : Stock) (read : List TopRead × Stock) → Reads bytes before read → BeginsWithNames before.symbols.symbols →
    All (λ f. IsThere (first_world read.1) f.form) read.0

-- the definition of the function of this name
pub record DefinesSymbol (s : SymId) (t : Top) : Type 0 where
  pub is : IsDefinition t
  pub name : s ≡ is.name

-- a DEFUN in the scope of a function of the prelude gives the definition of that function
abbrev pub PreludesDefine : Type 0
PreludesDefine =
    (s : SymId) (v : Val) (w after : World) (t : Top) → helper_name w.heap v ≡ Some s → is_reserved s ≡ false →
    top_tree most_chain (helper_scope s) v w ≡ gives t after → DefinesSymbol s t
