-- The surroundings of a node, and the effects that nodes have: on variables, functions and exits. (This project's own.)
use Rattle.std.specs.Prelude.{ℕ, ◌+◌, ◌-◌, ◌*◌, pos, Bool, true, false, not, ◌&&◌, ◌||◌, if◌then◌else◌, nat_lt, List, [], ◌∷◌, ◌++◌, length, map, take, codes, Option, Some, None}
use Rattle.lisp_base.specs.declared.values.SymId.{SymId}
use Rattle.lisp_base.specs.declared.values.Val.{Val}
use Rattle.lisp_base.specs.declared.values.Val.TheVariants.{Int, Sym}
use Rattle.lisp_base.specs.declared.values.Place.{Place}
use Rattle.lisp_base.specs.declared.types.TypeName.TheVariants as name
use Rattle.lisp_base.specs.Sort.{nil, number_of, same}
use Rattle.lisp_base.specs.Spec.{Spec, Named, Or, no_spec, spec}
use Rattle.core_form.specs.declared.tree.Variable.{Variable}
use Rattle.core_form.specs.declared.tree.Variable.TheVariants.{Lexical, Special}
use Rattle.core_form.specs.Tree.{Parameter, Lambda, lambda, Optionals, no_optional, optional}
use Rattle.core_form.specs.Facts.{FunctionText, TagText, Facts, Code, has_number, lookup, without, closed_of, parameters_of}
use Rattle.core_form.specs.State.{Object, Fun, Cell, Fault, Undefined, Arguments, Control, State, Exit, all_big}
use Rattle.core_form.specs.Effect.{Effect, ◌>>=◌, ◌>>◌, pure, change, read, leave, allot, boxes_more, deliver_more, look_at, box_all, add, bind_to, new_entry}
use Rattle.core_form.specs.Force.{Vals, Force, Catch, in_force, deeper, symbol_named, raise, object_at, expect, one}
use Rattle.core_form.specs.Primitives.{or_nil, put_at, elements, most_arguments, function_in}

-- What the text fixes at a node: the facts of the top-level form; whether the node is in tail position, and at a word position.
pub record Text : Type 0 where
  pub facts : Facts
  pub tail : Bool
  pub word : Bool

-- the surroundings in which a node is evaluated: what the text fixes, and what is in force
pub record Around : Type 0 where
  pub text : Text
  pub force : Force

abbrev pub inside : Around → Around
inside cx = record cx { text = record cx.text { tail = false; word = false } }

abbrev pub at_word : Bool → Around → Around
at_word b cx = record cx { text = record cx.text { tail = false; word = b } }

abbrev pub plain : Around → Around
plain cx = record cx { text = record cx.text { word = false } }

-- in tail position only where this holds too
abbrev pub with_tail : Bool → Around → Around
with_tail b cx = record cx { text = record cx.text { tail = b && cx.text.tail } }

abbrev pub forced : (Force → Force) → Around → Around
forced g cx = record cx { force = g cx.force }

-- ---- delivering

-- a node delivers its values
unfoldable pub deliver : (word : Bool) → Vals → Effect Vals
deliver word vs = deliver_more (length vs - 1) >> boxes_more (all_big vs) (if word then 0 else all_big vs) >> pure vs

-- ---- variables

abbrev pub in_cell : Option Object → Val
in_cell (Some (Cell v)) = v
in_cell _ = nil

-- what the frame holds; a tree that is checked refers to nothing that it doesn't hold
abbrev pub in_frame_of : ℕ → State → Val
in_frame_of x s = or_nil (lookup x s.frame)

abbrev pub has_cell : Facts → ℕ → Bool
has_cell facts x = has_number x facts.cells

abbrev pub held : Facts → ℕ → State → Val
held facts x s = if has_cell facts x then in_cell (object_at (in_frame_of x s) s) else in_frame_of x s

unfoldable pub box_in : Facts → ℕ → Val → Effect (Unit {0})
box_in facts x v = if has_number x facts.words then pure tt else box_all (v ∷ [])

-- a variable, block or tagbody that has a cell has a new one for each binding
unfoldable pub place_in : (cell : Bool) → ℕ → Val → Effect (Unit {0})
place_in true x v = allot 2 >> add (Cell v) >>= bind_to x
place_in false x v = bind_to x v

unfoldable pub new_variable : Facts → ℕ → Val → Effect (Unit {0})
new_variable facts x v = box_in facts x v >> place_in (has_cell facts x) x v

unfoldable pub change_in : (cell : Bool) → ℕ → Val → Effect (Unit {0})
change_in true x v = read (in_frame_of x) >>= (λ c. put_at c (Cell v))
change_in false x v = bind_to x v

unfoldable pub set_variable : Facts → ℕ → Val → Effect Vals
set_variable facts x v = box_in facts x v >> change_in (has_cell facts x) x v >> one v

-- the binding of a special variable: its old value is what it had
abbrev pub deep : Force → Force
deep f = deeper 8 f

-- ---- functions

abbrev pub code_number : Facts → Lambda → ℕ
code_number facts (lambda k xs os r e) = facts.start + k

-- what the variables hold that a function closes over; how many of them hold an integer outside the fixnums
abbrev pub captured : Facts → FunctionText → State → Vals
captured facts f s = map (λ x. in_frame_of x s) (closed_of facts f)

abbrev pub big_captured : Facts → FunctionText → State → ℕ
big_captured facts f s = all_big (map (λ x. held facts x s) (without (closed_of facts f) facts.extents))

unfoldable pub capture : Facts → FunctionText → Effect Vals
capture facts f = read (big_captured facts f) >>= (λ n. boxes_more n n >> read (captured facts f))

unfoldable pub make_function : Facts → FunctionText → Effect Vals
make_function facts f =
    capture facts f >>= (λ vs. allot (2 + length vs) >> add (Fun (code_number facts f.lambda) vs) >>= one)

-- a local function as a value; a tree that is checked names no other
unfoldable pub make_local : Facts → Option FunctionText → Effect Vals
make_local facts None = one nil
make_local facts (Some f) = make_function facts f

-- a function to be called
abbrev pub callable : Spec
callable = Or (spec (Named name.Function) (spec (Named name.Symbol) no_spec))

unfoldable pub named_function : Force → Place → SymId → Option Val → Effect Val
named_function f p s None = raise f (Undefined s) p
named_function f p s (Some v) = pure v

-- a symbol stands for its function
unfoldable pub function_of : Force → Place → Val → Effect Val
function_of f p (Sym s) = read (function_in s) >>= named_function f p s
function_of f p v = pure v

-- the function that a value stands for, tested first
unfoldable pub designated : Force → Place → Val → Effect Val
designated f p v = expect f p callable v >> function_of f p v

unfoldable pub set_function : SymId → Val → Effect Vals
set_function s v = change (λ st. record st { functions = (number_of s, v) ∷ st.functions }) >> one v

-- whether a function takes so many arguments
abbrev pub optionals_length : Optionals → ℕ
optionals_length no_optional = 0
optionals_length (optional x e s os) = 1 + optionals_length os

abbrev pub has_rest : Option Parameter → Bool
has_rest None = false
has_rest (Some x) = true

abbrev pub takes : Lambda → ℕ → Bool
takes (lambda k xs os r e) n = not (nat_lt n (length xs)) && (has_rest r || not (nat_lt (length xs + optionals_length os) n))

-- the stack words of a pending call: those of its frame, of the nodes of its top-level form and of its arguments
abbrev pub frame_words : (nodes arguments : ℕ) → ℕ
frame_words nodes arguments = 64 + 8 * nodes + arguments

abbrev pub is_lexical : Parameter → Bool
is_lexical x = lexical x.variable
  where
    lexical : Variable → Bool
    lexical (Lexical n s) = true
    lexical (Special s) = false

abbrev pub all_lexical : List Parameter → Bool
all_lexical [] = true
all_lexical (x ∷ xs) = is_lexical x && all_lexical xs

-- the surroundings of a function's body: a call in tail position takes the place of its caller
abbrev pub entered : Code → (given : ℕ) → Around → Around
entered c given cx =
    let base = if cx.text.tail then cx.force.below else cx.force.words in
    record {
      text = record { facts = c.facts; tail = all_lexical (parameters_of c.text.lambda); word = false };
      force = record cx.force { below = base; words = base + frame_words c.facts.nodes given };
    }

-- the function before its list of arguments, and the list's elements after the others
abbrev pub all_but_last : Vals → Vals
all_but_last vs = take (length vs - 1) vs

abbrev pub last_of : Vals → Val
last_of [] = nil
last_of (v ∷ []) = v
last_of (v ∷ w ∷ vs) = last_of (w ∷ vs)

abbrev pub too_many : SymId → (before : ℕ) → ℕ → Fault
too_many s before n = Arguments (Some s) (before + n)

unfoldable pub spread : Force → Place → Vals → Effect Vals
spread f p vs =
    elements (most_arguments - length (all_but_last vs)) f p (too_many (symbol_named (codes "APPLY") f.symbols) (length (all_but_last vs))) [] (last_of vs) >>= (λ ws. pure (all_but_last vs ++ ws))

-- the arguments of a call with all values of some forms
unfoldable pub not_too_many : Force → Place → Vals → Effect (Unit {0})
not_too_many f p vs =
    if nat_lt most_arguments (length vs) then raise f (Arguments (Some (symbol_named (codes "MULTIPLE-VALUE-CALL") f.symbols)) (length vs)) p else pure tt

-- ---- exits

-- an entry of a block or tagbody is a number in a variable of its own
abbrev pub entry_value : ℕ → Val
entry_value n = Int (pos n)

abbrev pub entry_in : Val → ℕ
entry_in (Int (pos n)) = n
entry_in _ = 0

unfoldable pub enter_extent : Facts → ℕ → Effect ℕ
enter_extent facts b = new_entry >>= (λ n. place_in (has_cell facts b) b (entry_value n) >> pure n)

abbrev pub entry_of : Facts → ℕ → State → ℕ
entry_of facts b s = entry_in (held facts b s)

abbrev pub with_entry : ℕ → Force → Force
with_entry n f = record f { entries = n ∷ f.entries }

-- an exit to an entry, where that is in force
unfoldable pub exit_to : Force → Place → (name : Val) → Exit → Effect Vals
exit_to f p name e = if in_force f e.entry then box_all e.values >> leave e else raise f (Control name) p

unfoldable pub return_from : Facts → Force → Place → ℕ → Vals → Effect Vals
return_from facts f p b vs =
    read (entry_of facts b) >>= (λ n. exit_to f p (or_nil (lookup b facts.blocks)) (record { entry = n; tag = None; values = vs }))

unfoldable pub go_on_at : Facts → Force → Place → ℕ → Option TagText → Effect Vals
go_on_at facts f p t None = raise f (Control nil) p
go_on_at facts f p t (Some u) =
    read (entry_of facts u.tagbody) >>= (λ n. exit_to f p u.name (record { entry = n; tag = Some t; values = [] }))

unfoldable pub go_to : Facts → Force → Place → ℕ → Effect Vals
go_to facts f p t = go_on_at facts f p t (lookup t facts.names.tags)

abbrev pub with_catch : Val → ℕ → Force → Force
with_catch v n f = record f { catches = record { tag = v; entry = n } ∷ f.catches; words = f.words + 8 }

-- the newest catch of a tag, and how many were looked at
abbrev pub find_catch : Val → List Catch → ℕ → ℕ × Option Catch
find_catch v [] n = (n, None)
find_catch v (c ∷ cs) n = if same v c.tag then (n + 1, Some c) else find_catch v cs (n + 1)

unfoldable pub throw_to : Force → Place → Val → Vals → Option Catch → Effect Vals
throw_to f p v vs None = raise f (Control v) p
throw_to f p v vs (Some c) = box_all vs >> leave (record { entry = c.entry; tag = None; values = vs })

unfoldable pub throw : Force → Place → Val → Vals → Effect Vals
throw f p v vs = look_at ((find_catch v f.catches 0).0) >> throw_to f p v vs ((find_catch v f.catches 0).1)
