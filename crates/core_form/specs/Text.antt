-- The text of a program after expansion, as UTF-8. (This project's own; constants as ANSI Common Lisp 22.1.3 prints them.)
use Rattle.std.specs.Prelude.{ℕ, List, [], ◌∷◌, ◌++◌, codes, decimal, slice_get, Option, Some, None}
use Rattle.std.specs.Fmt.{signed_decimal}
use Rattle.lisp_base.specs.declared.values.SymId.{SymId}
use Rattle.lisp_base.specs.declared.values.Val.{Val}
use Rattle.lisp_base.specs.declared.values.Val.TheVariants.{Int, Char, Sym, Ref}
use Rattle.lisp_base.specs.Sort.{number_of}
use Rattle.lisp_base.specs.Spec.{Spec}
use Rattle.lisp_base.specs.Tables.{Symbol, make_table}
use Rattle.lisp_base.specs.InStore.{Store, make_store, store_shown}
use Rattle.lisp_base.specs.PrimNames.{prim_name}
use Rattle.lisp_print.specs.declared.printing.Limits.{Limits}
use Rattle.lisp_print.specs.Printing.{word_text}
use Rattle.type_spec.specs.Texts.{spec_text}
use Rattle.core_form.specs.declared.text_page.Known.{Known}
use Rattle.core_form.specs.declared.tree.Variable.{Variable}
use Rattle.core_form.specs.declared.tree.Variable.TheVariants.{Lexical, Special}
use Rattle.core_form.specs.Tree.{Parameter, Core, Quote, Local, SetLocal, Global, SetGlobal, If, Progn, Let, Function, Labels, CallLocal, CallGlobal, Funcall, Apply, MvCall, FunLocal, FunGlobal, SetFun, Primitive, Is, The, Block, ReturnFrom, Tagbody, Go, Catch, Throw, Unwind, Values, MvProg1, Cores, no_core, core, Bindings, no_binding, binding, Optionals, no_optional, optional, Lambda, lambda, Definitions, no_definition, define, Items, no_item, tag, step, Top}
use Rattle.core_form.specs.Reading.{tops_of}
use Rattle.core_form.specs.Lawful.{Parts}
use Rattle.core_form.specs.TextNames.{known, name_of, parameter_names, given_names, variable_names, binding_names, optional_names, function_names, tag_names}

-- ---- lists

-- words, each after a space, the first one after what is given
abbrev pub spaced : (first : List ℕ) → List (List ℕ) → List ℕ
spaced first [] = []
spaced first (w ∷ ws) = first ++ w ++ spaced (codes " ") ws

-- words in parentheses, with single spaces between them
abbrev pub group : List (List ℕ) → List ℕ
group ws = codes "(" ++ spaced [] ws ++ codes ")"

-- ---- constants, symbols, types and names, by the objects and the symbols of a program

abbrev pub datum_limits : Limits
datum_limits = record { level = 20; length = 1000; total = 10000 }

-- a constant as the printer shows it, cut where it is deep or long
abbrev pub datum_text : Store → Val → List ℕ
datum_text st v = word_text datum_limits (store_shown st) v

-- a symbol that stands for itself, as the printer shows it
abbrev pub symbol_text : Store → SymId → List ℕ
symbol_text st s = datum_text st (Sym s)

abbrev pub type_text : Store → Spec → List ℕ
type_text st t = spec_text (make_table st.symbols 0) t

-- the name of a symbol, without mark
abbrev pub bare_name : Option Symbol → List ℕ
bare_name None = []
bare_name (Some s) = s.name

-- the name of a variable, function, block or tag: a symbol's, of a tag also an integer
abbrev pub bare_text : Store → Val → List ℕ
bare_text st (Int z) = signed_decimal z
bare_text st (Char c) = []
bare_text st (Sym s) = bare_name (slice_get st.symbols (number_of s))
bare_text st (Ref o) = []

-- a name, a dot and its number
abbrev pub label_text : Store → Known → List ℕ
label_text st k = bare_text st k.name ++ codes "." ++ decimal k.number

-- a number that is used, by the name that is bound to it
abbrev pub used_text : Store → Option Known → ℕ → List ℕ
used_text st None n = codes "." ++ decimal n
used_text st (Some k) n = label_text st k

-- ---- variables

abbrev pub variable_text : Store → Variable → List ℕ
variable_text st (Lexical n s) = label_text st (known n (Sym s))
variable_text st (Special s) = group (codes "special" ∷ symbol_text st s ∷ [])

-- a parameter with its checks, the first one innermost
abbrev pub checked_text : Store → List ℕ → List Spec → List ℕ
checked_text st x [] = x
checked_text st x (t ∷ ts) = checked_text st (group (codes "check" ∷ type_text st t ∷ x ∷ [])) ts

abbrev pub parameter_text : Store → Parameter → List ℕ
parameter_text st x = checked_text st (variable_text st x.variable) x.types

abbrev pub parameter_texts : Store → List Parameter → List (List ℕ)
parameter_texts st [] = []
parameter_texts st (x ∷ xs) = parameter_text st x ∷ parameter_texts st xs

-- the variable that tells whether an argument was given
abbrev pub flag_texts : Store → Option Parameter → List (List ℕ)
flag_texts st None = []
flag_texts st (Some x) = parameter_text st x ∷ []

abbrev pub rest_texts : Store → Option Parameter → List (List ℕ)
rest_texts st None = []
rest_texts st (Some x) = group (codes "rest" ∷ parameter_text st x ∷ []) ∷ []

-- ---- nodes, where these names are bound

abbrev mutual
  pub core_text : Store → List Known → Core → List ℕ
  core_text st ns (Quote p v) = group (codes "quote" ∷ datum_text st v ∷ [])
  core_text st ns (Local p x) = used_text st (name_of ns x) x
  core_text st ns (SetLocal p x e) = group (codes "set" ∷ used_text st (name_of ns x) x ∷ core_text st ns e ∷ [])
  core_text st ns (Global p s) = group (codes "global" ∷ symbol_text st s ∷ [])
  core_text st ns (SetGlobal p s e) = group (codes "setglobal" ∷ symbol_text st s ∷ core_text st ns e ∷ [])
  core_text st ns (If p a b c) = group (codes "if" ∷ core_text st ns a ∷ core_text st ns b ∷ core_text st ns c ∷ [])
  core_text st ns (Progn p es) = group (codes "progn" ∷ core_texts st ns es)
  core_text st ns (Let p bs e) = group (codes "let" ∷ group (binding_texts st ns bs) ∷ core_text st (ns ++ binding_names bs) e ∷ [])
  core_text st ns (Function p l) = lambda_text st ns l
  core_text st ns (Labels p ds e) =
      group (codes "labels" ∷ group (definition_texts st (ns ++ function_names ds) ds) ∷ core_text st (ns ++ function_names ds) e ∷ [])
  core_text st ns (CallLocal p f es) = group (codes "call" ∷ used_text st (name_of ns f) f ∷ core_texts st ns es)
  core_text st ns (CallGlobal p s es) = group (codes "callglobal" ∷ symbol_text st s ∷ core_texts st ns es)
  core_text st ns (Funcall p e es) = group (codes "funcall" ∷ core_text st ns e ∷ core_texts st ns es)
  core_text st ns (Apply p e es) = group (codes "apply" ∷ core_text st ns e ∷ core_texts st ns es)
  core_text st ns (MvCall p e es) = group (codes "mvcall" ∷ core_text st ns e ∷ core_texts st ns es)
  core_text st ns (FunLocal p f) = group (codes "fun" ∷ used_text st (name_of ns f) f ∷ [])
  core_text st ns (FunGlobal p s) = group (codes "funglobal" ∷ symbol_text st s ∷ [])
  core_text st ns (SetFun p s e) = group (codes "setfun" ∷ symbol_text st s ∷ core_text st ns e ∷ [])
  core_text st ns (Primitive p q es) = group (prim_name q ∷ core_texts st ns es)
  core_text st ns (Is p t e) = group (codes "is" ∷ type_text st t ∷ core_text st ns e ∷ [])
  core_text st ns (The p t e) = group (codes "the" ∷ type_text st t ∷ core_text st ns e ∷ [])
  core_text st ns (Block p b s e) =
      group (codes "block" ∷ label_text st (known b (Sym s)) ∷ core_text st (ns ++ known b (Sym s) ∷ []) e ∷ [])
  core_text st ns (ReturnFrom p b e) = group (codes "return" ∷ used_text st (name_of ns b) b ∷ core_text st ns e ∷ [])
  core_text st ns (Tagbody p is) = group (codes "tagbody" ∷ item_texts st (ns ++ tag_names is) is)
  core_text st ns (Go p t) = group (codes "go" ∷ used_text st (name_of ns t) t ∷ [])
  core_text st ns (Catch p t e) = group (codes "catch" ∷ core_text st ns t ∷ core_text st ns e ∷ [])
  core_text st ns (Throw p t e) = group (codes "throw" ∷ core_text st ns t ∷ core_text st ns e ∷ [])
  core_text st ns (Unwind p e c) = group (codes "unwind" ∷ core_text st ns e ∷ core_text st ns c ∷ [])
  core_text st ns (Values p es) = group (codes "values" ∷ core_texts st ns es)
  core_text st ns (MvProg1 p e c) = group (codes "mvprog1" ∷ core_text st ns e ∷ core_text st ns c ∷ [])

  pub core_texts : Store → List Known → Cores → List (List ℕ)
  core_texts st ns no_core = []
  core_texts st ns (core e es) = core_text st ns e ∷ core_texts st ns es

  -- the types declared of a variable stand as checks in the form of its value
  pub binding_texts : Store → List Known → Bindings → List (List ℕ)
  binding_texts st ns no_binding = []
  binding_texts st ns (binding x e bs) = group (variable_text st x.variable ∷ core_text st ns e ∷ []) ∷ binding_texts st ns bs

  -- the parameters: those required, the optional ones and the rest; then the body, in which all are bound
  pub lambda_text : Store → List Known → Lambda → List ℕ
  lambda_text st ns (lambda k xs os r e) =
      group (codes "lambda"
      ∷ group (parameter_texts st xs ++ optional_texts st (ns ++ parameter_names xs) os ++ rest_texts st r)
      ∷ core_text st (((ns ++ parameter_names xs) ++ optional_names os) ++ given_names r) e ∷ [])

  -- in the form of each the parameters before it are bound
  pub optional_texts : Store → List Known → Optionals → List (List ℕ)
  optional_texts st ns no_optional = []
  optional_texts st ns (optional x e s os) =
      group (codes "opt" ∷ parameter_text st x ∷ core_text st ns e ∷ flag_texts st s)
      ∷ optional_texts st (ns ++ (variable_names x.variable ++ given_names s)) os

  pub definition_texts : Store → List Known → Definitions → List (List ℕ)
  definition_texts st ns no_definition = []
  definition_texts st ns (define p f s l ds) = group (label_text st (known f (Sym s)) ∷ lambda_text st ns l ∷ []) ∷ definition_texts st ns ds

  pub item_texts : Store → List Known → Items → List (List ℕ)
  item_texts st ns no_item = []
  item_texts st ns (tag t name is) = label_text st (known t name) ∷ item_texts st ns is
  item_texts st ns (step e is) = core_text st ns e ∷ item_texts st ns is

-- ---- programs

-- a line for each form
abbrev pub lines : Store → List Top → List ℕ
lines st [] = []
lines st (t ∷ ts) = core_text st [] t.core ++ codes "\n" ++ lines st ts

-- the text of a program: the functions of the prelude have no line
abbrev pub program_text : Parts → List ℕ
program_text p = lines (make_store p.heap p.symbols) (tops_of p.forms)
