-- How a node's text is written: what it does and what it names, and then its parts. (This project's own.)
use Rattle.std.specs.Prelude.{ℕ, Bool, true, false, List, [], ◌∷◌, ◌++◌, codes}
use Rattle.lisp_base.specs.declared.values.Val.TheVariants.{Sym}
use Rattle.lisp_base.specs.InStore.{Store}
use Rattle.lisp_base.specs.PrimNames.{prim_name}
use Rattle.core_form.specs.declared.text_page.Known.{Known}
use Rattle.core_form.specs.Tree.{Core, Quote, Local, SetLocal, Global, SetGlobal, If, Progn, Let, Function, Labels, CallLocal, CallGlobal, Funcall, Apply, MvCall, FunLocal, FunGlobal, SetFun, Primitive, Is, The, Block, ReturnFrom, Tagbody, Go, Catch, Throw, Unwind, Values, MvProg1, Bindings, Definitions}
use Rattle.core_form.specs.TextNames.{known, name_of, binding_names, function_names, tag_names}
use Rattle.core_form.specs.Text.{group, datum_text, symbol_text, type_text, label_text, used_text, core_text, core_texts, binding_texts, definition_texts, item_texts}

-- a variable has no parentheses, and a function has words of its own
abbrev pub is_listed : Core → Bool
is_listed (Local p x) = false
is_listed (Function p l) = false
is_listed _ = true

abbrev pub head_texts : Store → List Known → Core → List (List ℕ)
head_texts st ns (Quote p v) = codes "quote" ∷ datum_text st v ∷ []
head_texts st ns (Local p x) = []
head_texts st ns (SetLocal p x e) = codes "set" ∷ used_text st (name_of ns x) x ∷ []
head_texts st ns (Global p s) = codes "global" ∷ symbol_text st s ∷ []
head_texts st ns (SetGlobal p s e) = codes "setglobal" ∷ symbol_text st s ∷ []
head_texts st ns (If p a b c) = codes "if" ∷ []
head_texts st ns (Progn p es) = codes "progn" ∷ []
head_texts st ns (Let p bs e) = codes "let" ∷ []
head_texts st ns (Function p l) = []
head_texts st ns (Labels p ds e) = codes "labels" ∷ []
head_texts st ns (CallLocal p f es) = codes "call" ∷ used_text st (name_of ns f) f ∷ []
head_texts st ns (CallGlobal p s es) = codes "callglobal" ∷ symbol_text st s ∷ []
head_texts st ns (Funcall p e es) = codes "funcall" ∷ []
head_texts st ns (Apply p e es) = codes "apply" ∷ []
head_texts st ns (MvCall p e es) = codes "mvcall" ∷ []
head_texts st ns (FunLocal p f) = codes "fun" ∷ used_text st (name_of ns f) f ∷ []
head_texts st ns (FunGlobal p s) = codes "funglobal" ∷ symbol_text st s ∷ []
head_texts st ns (SetFun p s e) = codes "setfun" ∷ symbol_text st s ∷ []
head_texts st ns (Primitive p q es) = prim_name q ∷ []
head_texts st ns (Is p t e) = codes "is" ∷ type_text st t ∷ []
head_texts st ns (The p t e) = codes "the" ∷ type_text st t ∷ []
head_texts st ns (Block p b s e) = codes "block" ∷ label_text st (known b (Sym s)) ∷ []
head_texts st ns (ReturnFrom p b e) = codes "return" ∷ used_text st (name_of ns b) b ∷ []
head_texts st ns (Tagbody p is) = codes "tagbody" ∷ []
head_texts st ns (Go p t) = codes "go" ∷ used_text st (name_of ns t) t ∷ []
head_texts st ns (Catch p t e) = codes "catch" ∷ []
head_texts st ns (Throw p t e) = codes "throw" ∷ []
head_texts st ns (Unwind p e c) = codes "unwind" ∷ []
head_texts st ns (Values p es) = codes "values" ∷ []
head_texts st ns (MvProg1 p e c) = codes "mvprog1" ∷ []

-- the variables of a Let with their forms, and its body
abbrev pub let_texts : Store → List Known → Bindings → Core → List (List ℕ)
let_texts st ns bs e = group (binding_texts st ns bs) ∷ core_text st (ns ++ binding_names bs) e ∷ []

-- local functions, and the body in which they are bound
abbrev pub labels_texts : Store → List Known → Definitions → Core → List (List ℕ)
labels_texts st ns ds e =
    group (definition_texts st (ns ++ function_names ds) ds) ∷ core_text st (ns ++ function_names ds) e ∷ []

abbrev pub part_texts : Store → List Known → Core → List (List ℕ)
part_texts st ns (Quote p v) = []
part_texts st ns (Local p x) = []
part_texts st ns (SetLocal p x e) = core_text st ns e ∷ []
part_texts st ns (Global p s) = []
part_texts st ns (SetGlobal p s e) = core_text st ns e ∷ []
part_texts st ns (If p a b c) = core_text st ns a ∷ core_text st ns b ∷ core_text st ns c ∷ []
part_texts st ns (Progn p es) = core_texts st ns es
part_texts st ns (Let p bs e) = let_texts st ns bs e
part_texts st ns (Function p l) = []
part_texts st ns (Labels p ds e) = labels_texts st ns ds e
part_texts st ns (CallLocal p f es) = core_texts st ns es
part_texts st ns (CallGlobal p s es) = core_texts st ns es
part_texts st ns (Funcall p e es) = core_text st ns e ∷ core_texts st ns es
part_texts st ns (Apply p e es) = core_text st ns e ∷ core_texts st ns es
part_texts st ns (MvCall p e es) = core_text st ns e ∷ core_texts st ns es
part_texts st ns (FunLocal p f) = []
part_texts st ns (FunGlobal p s) = []
part_texts st ns (SetFun p s e) = core_text st ns e ∷ []
part_texts st ns (Primitive p q es) = core_texts st ns es
part_texts st ns (Is p t e) = core_text st ns e ∷ []
part_texts st ns (The p t e) = core_text st ns e ∷ []
part_texts st ns (Block p b s e) = core_text st (ns ++ known b (Sym s) ∷ []) e ∷ []
part_texts st ns (ReturnFrom p b e) = core_text st ns e ∷ []
part_texts st ns (Tagbody p is) = item_texts st (ns ++ tag_names is) is
part_texts st ns (Go p t) = []
part_texts st ns (Catch p t e) = core_text st ns t ∷ core_text st ns e ∷ []
part_texts st ns (Throw p t e) = core_text st ns t ∷ core_text st ns e ∷ []
part_texts st ns (Unwind p e c) = core_text st ns e ∷ core_text st ns c ∷ []
part_texts st ns (Values p es) = core_texts st ns es
part_texts st ns (MvProg1 p e c) = core_text st ns e ∷ core_text st ns c ∷ []
