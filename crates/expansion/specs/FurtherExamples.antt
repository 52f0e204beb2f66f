-- Further examples: declarations and where they hold, parameters, macros, places, refusals and limits (ANSI Common Lisp 3.3, 3.4 and the entries
-- of the operators; numbers, places and limits are this project's own).
use Rattle.std.specs.Prelude.{pos, [], ◌∷◌, replicate, codes, Some, None}
use Rattle.lisp_base.specs.declared.base_symbols.TheConstants as at
use Rattle.lisp_base.specs.declared.primitives.Primitive.TheVariants as q
use Rattle.lisp_base.specs.declared.types.TypeName.TheVariants as name
use Rattle.lisp_base.specs.declared.values.Val.TheVariants.{Int, Char, Sym, Ref}
use Rattle.lisp_base.specs.Sort.{nil, truth, symbol, object}
use Rattle.lisp_base.specs.Spec.{Named, Member, Or, spec, no_spec}
use Rattle.lisp_base.specs.Tables.{Cons, Str, base_symbol}
use Rattle.lisp_forms.specs.Trees.{form, list, list_before}
use Rattle.declarations.specs.Declarations.{typed}
use Rattle.core_form.specs.declared.tree.Variable.TheVariants.{Lexical}
use Rattle.core_form.specs.Tree as tree
use Rattle.core_form.specs.Tree.{no_binding, binding, no_optional, optional, lambda, no_definition, define, no_item, tag, step}
use Rattle.expansion.specs.declared.kind.ExpandKind.TheVariants.{BadForm, BadType, UnknownOperator, BadPolicy, TooManyNodes, TooNested}
use Rattle.expansion.specs.ExampleForms.{x, y, f, g, r, s, k, foo, keyword_k, fresh_1, fresh_2, fresh_3, fixnum_symbol, word, number, call, words, declare_fixnum, let_form, lambda_form, quote_form, place, Gives, GivesFrom, GivesPlaced, IsRefused, IsRefusedFrom, GivesFixed, Counts, Leaves, make_policy, GivesLimited, IsLimited, quoted, int, null, local, global, fixnum, the_fixnum, cores, progn, if_node, primitive, call_global, variable, fixnum_variable, special_variable, let_node, let_two, function, required, set_local, set_global, is_node, the_node, labels, define_function, call_local, funcall, call_with_values, block, return_from, tagbody, go, int_at, call_at}

-- ---- declarations

pub record Declarations : Type 0 where
  -- (LET ((X 1)) (DECLARE (FIXNUM X) (INTEGER X)) X), where the first check is the inner one
  pub two_types : Gives (let_form x (number 1) (call at.DECLARE (words (fixnum_symbol ∷ x ∷ []) ∷ words (at.INTEGER ∷ x ∷ []) ∷ []) ∷ word x ∷ []))
      (let_node (record { variable = Lexical 1 x; types = fixnum ∷ Named name.Integer ∷ [] }) (the_node (Named name.Integer) (the_fixnum (int 1))) (local 1))
  -- (LET ((X 1)) (LOCALLY (DECLARE (FIXNUM X)) (SETQ X X)))
  pub of_outer : Gives (let_form x (number 1) (call at.LOCALLY (declare_fixnum x ∷ words (at.SETQ ∷ x ∷ x ∷ []) ∷ []) ∷ []))
      (let_node (variable 1 x) (int 1) (set_local 1 (the_fixnum (the_fixnum (local 1)))))
  -- (LOCALLY (DECLARE (FIXNUM X)) (LET ((X X)) X)), where the inner X is another variable
  pub other_variable : Gives (call at.LOCALLY (declare_fixnum x ∷ let_form x (word x) (word x ∷ []) ∷ []))
      (let_node (variable 1 x) (the_fixnum (global x)) (local 1))
  -- (LOCALLY (DECLARE (FIXNUM X)) (LET ((X 1)) (DECLARE (SPECIAL X)) X)), where the inner X is another binding
  pub other_binding : Gives (call at.LOCALLY (declare_fixnum x ∷ let_form x (number 1) (call at.DECLARE (words (at.SPECIAL ∷ x ∷ []) ∷ []) ∷ word x ∷ []) ∷ []))
      (let_node (special_variable x) (int 1) (global x))
  -- (LET ((X 1)) (DECLARE (FIXNUM X)) (LET ((X 2)) (SETQ X 3)))
  pub inner_variable : Gives (let_form x (number 1) (declare_fixnum x ∷ let_form x (number 2) (call at.SETQ (word x ∷ number 3 ∷ []) ∷ []) ∷ []))
      (let_node (fixnum_variable 1 x) (the_fixnum (int 1)) (let_node (variable 2 x) (int 2) (set_local 2 (int 3))))
  -- (LET ((X 1)) (LOCALLY (DECLARE (SPECIAL X)) X))
  pub special_outer : Gives (let_form x (number 1) (call at.LOCALLY (call at.DECLARE (words (at.SPECIAL ∷ x ∷ []) ∷ []) ∷ word x ∷ []) ∷ []))
      (let_node (variable 1 x) (int 1) (global x))
  -- (LET ((X 1) (Y 2)) (DECLARE (SPECIAL X)) Y), where a special variable has no number
  pub special_beside : Gives (call at.LET (list (call x (number 1 ∷ []) ∷ call y (number 2 ∷ []) ∷ []) ∷ call at.DECLARE (words (at.SPECIAL ∷ x ∷ []) ∷ []) ∷ word y ∷ []))
      (let_two (special_variable x) (int 1) (variable 1 y) (int 2) (local 1))
  -- (LOCALLY (DECLARE (SPECIAL X)) (LET ((X 1)) X)), where the inner X is another variable
  pub special_around :
      Gives (call at.LOCALLY (call at.DECLARE (words (at.SPECIAL ∷ x ∷ []) ∷ []) ∷ let_form x (number 1) (word x ∷ []) ∷ []))
      (let_node (variable 1 x) (int 1) (local 1))
  -- (LET* ((X 1) (Y X)) (DECLARE (SPECIAL X)) Y)
  pub special_in_order :
      Gives (call at.LET_STAR (list (call x (number 1 ∷ []) ∷ words (y ∷ x ∷ []) ∷ []) ∷ call at.DECLARE (words (at.SPECIAL ∷ x ∷ []) ∷ []) ∷ word y ∷ []))
      (let_node (special_variable x) (int 1) (let_node (variable 1 y) (global x) (local 1)))
  -- (PROGN (DEFVAR X) (LET ((X 1)) X))
  pub special_after : Gives (call at.PROGN (words (at.DEFVAR ∷ x ∷ []) ∷ let_form x (number 1) (word x ∷ []) ∷ []))
      (progn (quoted (Sym x) ∷ let_node (special_variable x) (int 1) (global x) ∷ []))
  -- (PROGN (DECLAIM (FIXNUM X)) (SETQ X 1) (LET ((X 2)) (SETQ X X)))
  pub declaimed : Gives (call at.PROGN (call at.DECLAIM (words (fixnum_symbol ∷ x ∷ []) ∷ []) ∷ call at.SETQ (word x ∷ number 1 ∷ []) ∷ let_form x (number 2) (words (at.SETQ ∷ x ∷ x ∷ []) ∷ []) ∷ []))
      (progn (null ∷ set_global x (the_fixnum (int 1)) ∷ let_node (fixnum_variable 1 x) (the_fixnum (int 2)) (set_local 1 (the_fixnum (local 1))) ∷ []))
  -- (PROGN (DECLAIM (FIXNUM X)) (DEFVAR X 1))
  pub declaimed_defvar : Gives (call at.PROGN (call at.DECLAIM (words (fixnum_symbol ∷ x ∷ []) ∷ []) ∷ call at.DEFVAR (word x ∷ number 1 ∷ []) ∷ []))
      (progn (null ∷ progn (if_node (primitive q.Boundp (quoted (Sym x) ∷ [])) null (set_global x (the_fixnum (int 1))) ∷ quoted (Sym x) ∷ []) ∷ []))
  -- (LOCALLY (DECLARE (OPTIMIZE (SAFETY 3))) (LOCALLY (DECLARE (OPTIMIZE SPEED)) X)), where the outer policy goes on
  pub policy_goes_on : Gives (call at.LOCALLY (call at.DECLARE (call at.OPTIMIZE (call at.SAFETY (number 3 ∷ []) ∷ []) ∷ []) ∷ call at.LOCALLY (call at.DECLARE (words (at.OPTIMIZE ∷ at.SPEED ∷ []) ∷ []) ∷ word x ∷ []) ∷ []))
      (global x)
  -- (LET (X (Y)) Y)
  pub without_value :
      Gives (call at.LET (list (word x ∷ words (y ∷ []) ∷ []) ∷ word y ∷ [])) (let_two (variable 1 x) null (variable 2 y) null (local 2))
  -- (FLET ((F () X)) (DECLARE (FIXNUM X)) X), where the declaration is of the body alone
  pub flet_around :
      Gives (call at.FLET (list (call f (form nil ∷ word x ∷ []) ∷ []) ∷ declare_fixnum x ∷ word x ∷ []))
      (labels (define_function 1 f (required 0 [] (block 2 f (global x))) no_definition) (the_fixnum (global x)))
  -- (LET* ((X 1)) "A" (DECLARE (IGNORE X)) 2), where the string is dropped
  pub string_dropped : GivesFrom (Str (codes "A") ∷ []) (call at.LET_STAR (list (call x (number 1 ∷ []) ∷ []) ∷ form (Ref (object 0)) ∷ call at.DECLARE (words (at.IGNORE ∷ x ∷ []) ∷ []) ∷ number 2 ∷ []))
      (let_node (variable 1 x) (int 1) (int 2))
  -- (LET ((X 1)) "A")
  pub string_alone : GivesFrom (Str (codes "A") ∷ []) (let_form x (number 1) (form (Ref (object 0)) ∷ []))
      (let_node (variable 1 x) (int 1) (quoted (Ref (object 0))))

-- ---- parameters

pub record Parameters : Type 0 where
  -- #'(LAMBDA (X &OPTIONAL (Y (LET ((K 1)) K) S) &REST R) R), where all parameters come before the inner variable
  pub all_before : Gives (lambda_form (list (word x ∷ word at.LAMBDA_LIST_OPTIONAL ∷ call y (let_form k (number 1) (word k ∷ []) ∷ word s ∷ []) ∷ word at.LAMBDA_LIST_REST ∷ word r ∷ [])) (word r ∷ []))
      (function (lambda 0 (variable 1 x ∷ []) (optional (variable 2 y) (let_node (variable 5 k) (int 1) (local 5)) (Some (variable 3 s)) no_optional) (Some (variable 4 r)) (local 4)))
  -- #'(LAMBDA (&OPTIONAL (X X S) (Y S)) Y)
  pub in_order : Gives (lambda_form (list (word at.LAMBDA_LIST_OPTIONAL ∷ words (x ∷ x ∷ s ∷ []) ∷ words (y ∷ s ∷ []) ∷ [])) (word y ∷ []))
      (function (lambda 0 [] (optional (variable 1 x) (global x) (Some (variable 2 s)) (optional (variable 3 y) (local 2) None no_optional)) None (local 3)))
  -- (DEFUN F (X) "A" (DECLARE (FIXNUM X)) (SETQ X 1))
  pub declared : GivesFrom (Str (codes "A") ∷ []) (call at.DEFUN (word f ∷ words (x ∷ []) ∷ form (Ref (object 0)) ∷ declare_fixnum x ∷ call at.SETQ (word x ∷ number 1 ∷ []) ∷ []))
      (progn (tree.SetFun (place 0) f (labels (define_function 1 f (required 0 (fixnum_variable 2 x ∷ []) (block 3 f (set_local 2 (the_fixnum (int 1))))) no_definition) (tree.FunLocal (place 0) 1)) ∷ quoted (Sym f) ∷ []))
  -- #'(LAMBDA (&OPTIONAL (Y X)) (DECLARE (FIXNUM X)) X), where the declaration is of the body alone
  pub declared_outer : Gives (lambda_form (list (word at.LAMBDA_LIST_OPTIONAL ∷ words (y ∷ x ∷ []) ∷ [])) (declare_fixnum x ∷ word x ∷ []))
      (function (lambda 0 [] (optional (variable 1 y) (global x) None no_optional) None (the_fixnum (global x))))
  -- #'(LAMBDA (X &AUX (X X)) (DECLARE (FIXNUM X)) X), where the declaration goes with the last binding
  pub declared_auxiliary : Gives (lambda_form (list (word x ∷ word at.LAMBDA_LIST_AUX ∷ words (x ∷ x ∷ []) ∷ [])) (declare_fixnum x ∷ word x ∷ []))
      (function (required 0 (variable 1 x ∷ []) (let_node (fixnum_variable 2 x) (the_fixnum (local 1)) (local 2))))
  -- #'(LAMBDA (&REST R &KEY K) (DECLARE (FIXNUM K)) K): the form has 14 conses
  pub declared_key : Gives (lambda_form (words (at.LAMBDA_LIST_REST ∷ r ∷ at.LAMBDA_LIST_KEY ∷ k ∷ [])) (declare_fixnum k ∷ word k ∷ []))
      (function (lambda 0 [] no_optional (Some (variable 1 r))
      (if_node (call_global at.HELPER_KEYP (local 1 ∷ quoted (Ref (object 14)) ∷ []))
      (let_node (fixnum_variable 2 k)
      (the_fixnum (if_node (call_global at.HELPER_KEY (local 1 ∷ quoted (Sym keyword_k) ∷ [])) (primitive q.Car (call_global at.HELPER_KEY (local 1 ∷ quoted (Sym keyword_k) ∷ []) ∷ [])) null))
      (local 2))
      (funcall (function (required 1 [] null)) (local 1 ∷ [])))))
  -- (DEFUN F (&KEY K) K), whose block stands in the bindings of the keys: the form has six conses
  pub key_in_block : Gives (call at.DEFUN (word f ∷ words (at.LAMBDA_LIST_KEY ∷ k ∷ []) ∷ word k ∷ []))
      (progn (tree.SetFun (place 0) f (labels (define_function 1 f (lambda 0 [] no_optional (Some (variable 2 fresh_1))
      (if_node (call_global at.HELPER_KEYP (local 2 ∷ quoted (Ref (object 6)) ∷ []))
      (let_node (variable 3 k)
      (if_node (call_global at.HELPER_KEY (local 2 ∷ quoted (Sym keyword_k) ∷ [])) (primitive q.Car (call_global at.HELPER_KEY (local 2 ∷ quoted (Sym keyword_k) ∷ []) ∷ [])) null)
      (block 4 f (local 3)))
      (funcall (function (required 1 [] null)) (local 2 ∷ [])))) no_definition) (tree.FunLocal (place 0) 1)) ∷ quoted (Sym f) ∷ []))
  -- #'(LAMBDA (&KEY) 1)
  pub key_of_none : Gives (lambda_form (words (at.LAMBDA_LIST_KEY ∷ [])) (number 1 ∷ []))
      (function (lambda 0 [] no_optional (Some (variable 1 fresh_1))
      (if_node (call_global at.HELPER_KEYP (local 1 ∷ null ∷ [])) (tree.Let (place 0) no_binding (int 1)) (funcall (function (required 1 [] null)) (local 1 ∷ [])))))
  -- #'(LAMBDA (&KEY X &AUX (Y X)) Y), where the keyword of X is new, and comes after the fresh symbol: the form has 11 conses
  pub key_and_auxiliary : Gives (lambda_form (list (word at.LAMBDA_LIST_KEY ∷ word x ∷ word at.LAMBDA_LIST_AUX ∷ words (y ∷ x ∷ []) ∷ [])) (word y ∷ []))
      (function (lambda 0 [] no_optional (Some (variable 1 fresh_1))
      (if_node (call_global at.HELPER_KEYP (local 1 ∷ quoted (Ref (object 11)) ∷ []))
      (let_node (variable 2 x)
      (if_node (call_global at.HELPER_KEY (local 1 ∷ quoted (Sym fresh_2) ∷ [])) (primitive q.Car (call_global at.HELPER_KEY (local 1 ∷ quoted (Sym fresh_2) ∷ []) ∷ [])) null)
      (let_node (variable 3 y) (local 2) (local 3)))
      (funcall (function (required 1 [] null)) (local 1 ∷ [])))))
  -- ((LAMBDA () 1))
  pub call_of_no_parameter : Gives (list (call at.LAMBDA (form nil ∷ number 1 ∷ []) ∷ [])) (tree.Let (place 0) no_binding (int 1))
  -- (F #'(LAMBDA () #'(LAMBDA () X)) #'(LAMBDA () Y)), where each function comes before those inside it
  pub numbers_of_functions : Gives (call f (lambda_form (form nil) (lambda_form (form nil) (word x ∷ []) ∷ []) ∷ lambda_form (form nil) (word y ∷ []) ∷ []))
      (call_global f (function (required 0 [] (function (required 1 [] (global x)))) ∷ function (required 2 [] (global y)) ∷ []))
  -- ((LAMBDA (X) (DECLARE (FIXNUM X)) X) 1)
  pub call_binds : Gives (list (call at.LAMBDA (words (x ∷ []) ∷ declare_fixnum x ∷ word x ∷ []) ∷ number 1 ∷ []))
      (let_node (fixnum_variable 1 x) (the_fixnum (int 1)) (local 1))
  -- ((LAMBDA (X) X))
  pub call_of_none : Gives (list (call at.LAMBDA (words (x ∷ []) ∷ word x ∷ []) ∷ []))
      (funcall (function (required 0 (variable 1 x ∷ []) (local 1))) [])
  -- ((LAMBDA (X &AUX Y) X) 1)
  pub call_with_auxiliary : Gives (list (call at.LAMBDA (words (x ∷ at.LAMBDA_LIST_AUX ∷ y ∷ []) ∷ word x ∷ []) ∷ number 1 ∷ []))
      (funcall (function (required 0 (variable 1 x ∷ []) (let_node (variable 2 y) null (local 1)))) (int 1 ∷ []))
  -- (LET ((X 1) (X 2)) X), (FLET ((F () 1) (F () 2)) (F)) and (TAGBODY X X (GO X)), where the later one counts
  pub variable_twice : Gives (call at.LET (list (call x (number 1 ∷ []) ∷ call x (number 2 ∷ []) ∷ []) ∷ word x ∷ []))
      (let_two (variable 1 x) (int 1) (variable 2 x) (int 2) (local 2))
  pub function_twice : Gives (call at.FLET (list (call f (form nil ∷ number 1 ∷ []) ∷ call f (form nil ∷ number 2 ∷ []) ∷ []) ∷ call f [] ∷ []))
      (labels (define_function 1 f (required 0 [] (block 3 f (int 1))) (define_function 2 f (required 1 [] (block 4 f (int 2))) no_definition)) (call_local 2 []))
  pub tag_twice : Gives (call at.TAGBODY (word x ∷ word x ∷ words (at.GO ∷ x ∷ []) ∷ []))
      (tagbody (tag 1 (Sym x) (tag 2 (Sym x) (step (go 2) no_item))))

-- ---- macros

pub record FurtherMacros : Type 0 where
  -- (AND), (OR), (AND X Y) and (OR X Y)
  pub and_none : Gives (call at.AND []) (quoted truth)
  pub or_none : Gives (call at.OR []) null
  pub and_two : Gives (words (at.AND ∷ x ∷ y ∷ [])) (if_node (global x) (global y) null)
  pub or_two : Gives (words (at.OR ∷ x ∷ y ∷ [])) (let_node (variable 1 fresh_1) (global x) (if_node (local 1) (local 1) (global y)))
  -- (UNLESS X 1), and (COND (X 1 2))
  pub unless : Gives (call at.UNLESS (word x ∷ number 1 ∷ [])) (if_node (global x) null (int 1))
  pub cond_two : Gives (call at.COND (call x (number 1 ∷ number 2 ∷ []) ∷ [])) (if_node (global x) (progn (int 1 ∷ int 2 ∷ [])) null)
  -- (CASE X (NIL 1) (T 2)) and (ECASE X (1 Y))
  pub case_none : Gives (call at.CASE (word x ∷ list (form nil ∷ number 1 ∷ []) ∷ list (form truth ∷ number 2 ∷ []) ∷ []))
      (let_node (variable 1 fresh_1) (global x) (if_node (is_node (Member []) (local 1)) (int 1) (int 2)))
  pub ecase : Gives (call at.ECASE (word x ∷ list (number 1 ∷ word y ∷ []) ∷ []))
      (let_node (variable 1 fresh_1) (global x) (if_node (is_node (Member (Int (pos 1) ∷ [])) (local 1)) (global y) (the_node (Member (Int (pos 1) ∷ [])) (local 1))))
  -- (TYPECASE X (FIXNUM 1))
  pub typecase : Gives (call at.TYPECASE (word x ∷ call fixnum_symbol (number 1 ∷ []) ∷ []))
      (let_node (variable 1 fresh_1) (global x) (if_node (is_node fixnum (local 1)) (int 1) null))
  -- (ETYPECASE X (FIXNUM 1))
  pub etypecase :
      Gives (call at.ETYPECASE (word x ∷ call fixnum_symbol (number 1 ∷ []) ∷ []))
      (let_node (variable 1 fresh_1) (global x) (if_node (is_node fixnum (local 1)) (int 1) (the_node (Or (spec fixnum no_spec)) (local 1))))
  -- (LOOP (RETURN 1))
  pub loop_return : Gives (call at.LOOP (call at.RETURN (number 1 ∷ []) ∷ []))
      (block 1 (symbol 0) (tagbody (tag 2 (Sym fresh_1) (step (return_from 1 (int 1)) (step (go 2) no_item)))))
  -- (DO ((X 1 Y)) (X 2))
  pub do_once : Gives (call at.DO (list (call x (number 1 ∷ word y ∷ []) ∷ []) ∷ call x (number 2 ∷ []) ∷ []))
      (block 1 (symbol 0) (let_node (variable 2 x) (int 1) (tagbody (tag 3 (Sym fresh_1)
      (step (if_node (local 2) (return_from 1 (int 2)) null)
      (step (let_node (variable 4 fresh_2) (global y) (progn (set_local 2 (local 4) ∷ null ∷ []))) (step (go 3) no_item)))))))
  -- (DOLIST (X Y) (F X))
  pub dolist : Gives (call at.DOLIST (words (x ∷ y ∷ []) ∷ words (f ∷ x ∷ []) ∷ []))
      (block 1 (symbol 0) (let_node (variable 2 fresh_1) (the_node (Named name.List) (global y)) (tagbody (tag 3 (Sym fresh_2)
      (step (if_node (local 2) null (return_from 1 (let_node (variable 4 x) null null)))
      (step (let_node (variable 5 x) (primitive q.Car (local 2 ∷ [])) (tagbody (step (call_global f (local 5 ∷ [])) no_item)))
      (step (set_local 2 (the_node (Named name.List) (primitive q.Cdr (local 2 ∷ [])))) (step (go 3) no_item))))))))
  -- (PROG (X) (F X))
  pub prog : Gives (call at.PROG (words (x ∷ []) ∷ words (f ∷ x ∷ []) ∷ []))
      (block 1 (symbol 0) (let_node (variable 2 x) null (tagbody (step (call_global f (local 2 ∷ [])) no_item))))
  -- (PROG1 X 1) and (PROG2 1 X Y)
  pub prog1 : Gives (call at.PROG1 (word x ∷ number 1 ∷ [])) (let_node (variable 1 fresh_1) (global x) (progn (int 1 ∷ local 1 ∷ [])))
  pub prog2 : Gives (call at.PROG2 (number 1 ∷ word x ∷ word y ∷ []))
      (progn (int 1 ∷ let_node (variable 1 fresh_1) (global x) (progn (global y ∷ local 1 ∷ [])) ∷ []))
  -- (MULTIPLE-VALUE-SETQ () X), which is (PROG1 X)
  pub set_no_values :
      Gives (call at.MULTIPLE_VALUE_SETQ (form nil ∷ word x ∷ [])) (let_node (variable 1 fresh_1) (global x) (progn (null ∷ local 1 ∷ [])))
  -- (PSETQ X 1 Y X)
  pub psetq : Gives (call at.PSETQ (word x ∷ number 1 ∷ word y ∷ word x ∷ []))
      (let_two (variable 1 fresh_1) (int 1) (variable 2 fresh_2) (global x) (progn (progn (set_global x (local 1) ∷ set_global y (local 2) ∷ []) ∷ null ∷ [])))
  -- (SETF), and (SETF X 1 Y 2)
  pub setf_none : Gives (call at.SETF []) null
  pub setf_two : Gives (call at.SETF (word x ∷ number 1 ∷ word y ∷ number 2 ∷ [])) (progn (set_global x (int 1) ∷ set_global y (int 2) ∷ []))
  -- (INCF X), (DECF X 2) and (INCF (CAR X) 2)
  pub incf : Gives (words (at.INCF ∷ x ∷ [])) (set_global x (primitive q.Add (global x ∷ int 1 ∷ [])))
  pub decf : Gives (call at.DECF (word x ∷ number 2 ∷ [])) (set_global x (primitive q.Subtract (global x ∷ int 2 ∷ [])))
  pub incf_place : Gives (call at.INCF (words (at.CAR ∷ x ∷ []) ∷ number 2 ∷ []))
      (let_two (variable 1 fresh_1) (global x) (variable 2 fresh_2) (int 2)
      (let_node (variable 3 fresh_3) (primitive q.Add (primitive q.Car (local 1 ∷ []) ∷ local 2 ∷ []))
      (progn (primitive q.Rplaca (local 1 ∷ local 3 ∷ []) ∷ local 3 ∷ []))))
  -- (POP X)
  pub pop : Gives (words (at.POP ∷ x ∷ []))
      (let_node (variable 1 fresh_1) (global x) (progn (set_global x (primitive q.Cdr (local 1 ∷ [])) ∷ primitive q.Car (local 1 ∷ []) ∷ [])))
  -- (MULTIPLE-VALUE-LIST X) and (NTH-VALUE 1 X)
  pub list_values : Gives (words (at.MULTIPLE_VALUE_LIST ∷ x ∷ [])) (call_with_values (tree.FunGlobal (place 0) at.LIST) (global x ∷ []))
  pub nth_value : Gives (call at.NTH_VALUE (number 1 ∷ word x ∷ []))
      (call_global at.NTH (int 1 ∷ call_with_values (tree.FunGlobal (place 0) at.LIST) (global x ∷ []) ∷ []))
  -- (MULTIPLE-VALUE-SETQ (X Y) 1)
  pub set_values : Gives (call at.MULTIPLE_VALUE_SETQ (words (x ∷ y ∷ []) ∷ number 1 ∷ []))
      (call_with_values (function (lambda 0 [] (optional (variable 1 fresh_1) null None (optional (variable 2 fresh_2) null None no_optional)) (Some (variable 3 fresh_3))
      (progn (progn (set_global x (local 1) ∷ set_global y (local 2) ∷ []) ∷ local 1 ∷ [])))) (int 1 ∷ []))
  -- `(X ,Y) and `(,@X Y)
  pub quasiquote : Gives (call at.QUASIQUOTE (list (word x ∷ words (at.UNQUOTE ∷ y ∷ []) ∷ []) ∷ []))
      (primitive q.Cons (quoted (Sym x) ∷ primitive q.Cons (global y ∷ null ∷ []) ∷ []))
  pub splicing : Gives (call at.QUASIQUOTE (list (words (at.UNQUOTE_SPLICING ∷ x ∷ []) ∷ word y ∷ []) ∷ []))
      (call_global at.HELPER_APPEND (global x ∷ primitive q.Cons (quoted (Sym y) ∷ null ∷ []) ∷ []))

-- ---- places

pub record FurtherPlaces : Type 0 where
  -- (LOCALLY (DECLARE (FIXNUM X)) (F X)), where the check is at the variable's use
  pub of_use : GivesPlaced (call at.LOCALLY (declare_fixnum x ∷ words (f ∷ x ∷ []) ∷ []))
      (call_at 5 f (tree.The (place 5) fixnum (tree.Global (place 5) x) ∷ []))
  -- (LET ((X 1)) (DECLARE (FIXNUM X)) (SETQ X (F)))
  pub of_setq : GivesPlaced (let_form x (number 1) (declare_fixnum x ∷ call at.SETQ (word x ∷ call f [] ∷ []) ∷ []))
      (tree.Let (place 14) (binding (fixnum_variable 1 x) (tree.The (place 14) fixnum (int_at 14 1)) no_binding)
      (tree.SetLocal (place 10) 1 (tree.The (place 10) fixnum (call_at 7 f []))))
  -- (DEFUN F (X) (G X))
  pub of_defun : GivesPlaced (call at.DEFUN (word f ∷ words (x ∷ []) ∷ words (g ∷ x ∷ []) ∷ []))
      (tree.Progn (place 6) (cores (tree.SetFun (place 6) f (tree.Labels (place 6) (define (place 6) 1 f (required 0 (variable 2 x ∷ []) (tree.Block (place 6) 3 f (call_at 2 g (tree.Local (place 2) 2 ∷ [])))) no_definition) (tree.FunLocal (place 6) 1)) ∷ tree.Quote (place 6) (Sym f) ∷ [])))
  -- #'(LAMBDA (X) X) and (LAMBDA (X) X)
  pub of_function : GivesPlaced (lambda_form (words (x ∷ [])) (word x ∷ [])) (tree.Function (place 5) (required 0 (variable 1 x ∷ []) (tree.Local (place 5) 1)))
  pub of_lambda : GivesPlaced (call at.LAMBDA (words (x ∷ []) ∷ word x ∷ [])) (tree.Function (place 3) (required 0 (variable 1 x ∷ []) (tree.Local (place 3) 1)))
  -- ((LAMBDA (X) X) (F))
  pub of_lambda_call : GivesPlaced (list (call at.LAMBDA (words (x ∷ []) ∷ word x ∷ []) ∷ call f [] ∷ []))
      (tree.Let (place 6) (binding (variable 1 x) (call_at 4 f []) no_binding) (tree.Local (place 6) 1))
  -- (WHEN X (WHEN Y (F)))
  pub of_macros : GivesPlaced (call at.WHEN (word x ∷ call at.WHEN (word y ∷ call f [] ∷ []) ∷ []))
      (tree.If (place 6) (tree.Global (place 6) x) (tree.If (place 3) (tree.Global (place 3) y) (call_at 0 f []) (tree.Quote (place 3) nil)) (tree.Quote (place 6) nil))
  -- (COND (X) (Y 1)), whose inner forms are made by the macro
  pub of_clauses : GivesPlaced (call at.COND (words (x ∷ []) ∷ call y (number 1 ∷ []) ∷ []))
      (tree.Let (place 5) (binding (variable 1 fresh_1) (tree.Global (place 5) x) no_binding)
      (tree.If (place 5) (tree.Local (place 5) 1) (tree.Local (place 5) 1) (tree.If (place 5) (tree.Global (place 5) y) (int_at 5 1) (tree.Quote (place 5) nil))))
  -- (PROGN 1 (F)) in a function of the prelude, and (DEFUN NOT (X) X), which it may define
  pub of_prelude : GivesFixed (call at.PROGN (number 1 ∷ call f [] ∷ [])) (progn (int 1 ∷ call_global f [] ∷ []))
  pub in_prelude : GivesFixed (call at.DEFUN (word at.NOT ∷ words (x ∷ []) ∷ word x ∷ []))
      (progn (tree.SetFun (place 0) at.NOT (labels (define_function 1 at.NOT (required 0 (variable 2 x ∷ []) (block 3 at.NOT (local 2))) no_definition) (tree.FunLocal (place 0) 1)) ∷ quoted (Sym at.NOT) ∷ []))

-- ---- refusals

pub record FurtherRefusals : Type 0 where
  -- (F . #0=(1 . #0#)), where the arguments go round, and (PROGN . #0=(1 . #0#))
  pub circular : IsRefusedFrom (Cons (Int (pos 1)) (Ref (object 0)) None ∷ []) (list_before (word f ∷ []) (Ref (object 0))) BadForm
  pub circular_body : IsRefusedFrom (Cons (Int (pos 1)) (Ref (object 0)) None ∷ []) (list_before (word at.PROGN ∷ []) (Ref (object 0))) BadForm
  -- (PROGN (THE FOO 1) (IF)), where the first one counts
  pub first_one : IsRefused (call at.PROGN (call at.THE (word foo ∷ number 1 ∷ []) ∷ call at.IF [] ∷ [])) BadType 2
  -- (LET ((X (IF))) (DECLARE (FOO X)) X), where the form comes before its parts
  pub outer_one : IsRefused (let_form x (call at.IF []) (call at.DECLARE (words (foo ∷ x ∷ []) ∷ []) ∷ word x ∷ [])) BadType 11
  -- (LET ((NIL 1)) (DECLARE (FOO X)) X), where the shape comes before the declarations
  pub shape_first : IsRefused (call at.LET (list (list (form nil ∷ number 1 ∷ []) ∷ []) ∷ call at.DECLARE (words (foo ∷ x ∷ []) ∷ []) ∷ word x ∷ [])) BadForm 10
  -- (IF 1 2 3 4), (QUOTE), (SETQ X), (THE FIXNUM) and (LET ((X 1 2)) X)
  pub if_of_four : IsRefused (call at.IF (number 1 ∷ number 2 ∷ number 3 ∷ number 4 ∷ [])) BadForm 4
  pub quote_of_none : IsRefused (call at.QUOTE []) BadForm 0
  pub setq_of_one : IsRefused (words (at.SETQ ∷ x ∷ [])) BadForm 1
  pub the_of_one : IsRefused (words (at.THE ∷ fixnum_symbol ∷ [])) BadForm 1
  pub long_binding : IsRefused (call at.LET (list (call x (number 1 ∷ number 2 ∷ []) ∷ []) ∷ word x ∷ [])) BadForm 6
  -- (TYPEP X FIXNUM) and (TYPEP X '(FOO))
  pub not_quoted : IsRefused (words (at.TYPEP ∷ x ∷ fixnum_symbol ∷ [])) BadForm 2
  pub not_type : IsRefused (call at.TYPEP (word x ∷ quote_form (words (foo ∷ [])) ∷ [])) BadType 5
  -- (VALUES 1 ..) of 20 and of 21
  pub values_of_20 : GivesPlaced (call at.VALUES (replicate 20 (number 1))) (tree.Values (place 20) (cores (replicate 20 (int_at 20 1))))
  pub values_of_21 : IsRefused (call at.VALUES (replicate 21 (number 1))) BadForm 21
  -- (F 1 ..) of 1025 arguments, and (FUNCALL X 1 ..) of 1024, whose function is none of them, and of 1025
  pub call_of_1025 : IsRefused (call f (replicate 1025 (number 1))) BadForm 1025
  pub funcall_of_1024 :
      GivesPlaced (call at.FUNCALL (word x ∷ replicate 1024 (number 1)))
      (tree.Funcall (place 1025) (tree.Global (place 1025) x) (cores (replicate 1024 (int_at 1025 1))))
  pub funcall_of_1025 : IsRefused (call at.FUNCALL (word x ∷ replicate 1025 (number 1))) BadForm 1026
  -- (TAGBODY #\A), (BLOCK 1 X) and (THROW X)
  pub not_item : IsRefused (call at.TAGBODY (form (Char 65) ∷ [])) BadForm 1
  pub not_name : IsRefused (call at.BLOCK (number 1 ∷ word x ∷ [])) BadForm 2
  pub throw_of_one : IsRefused (words (at.THROW ∷ x ∷ [])) BadForm 1
  -- (DEFVAR T 1), (DEFVAR X 1 2) and (IN-PACKAGE FOO)
  pub constant_defined : IsRefused (call at.DEFVAR (form truth ∷ number 1 ∷ [])) BadForm 2
  pub not_string : IsRefused (call at.DEFVAR (word x ∷ number 1 ∷ number 2 ∷ [])) BadForm 3
  pub other_package : IsRefused (words (at.IN_PACKAGE ∷ foo ∷ [])) BadForm 1
  -- (DECLARE (FIXNUM X)), and (DECLAIM (OPTIMIZE (SAFETY 0)))
  pub declare_alone : IsRefused (declare_fixnum x) BadForm 3
  pub no_safety : IsRefused (call at.DECLAIM (call at.OPTIMIZE (call at.SAFETY (number 0 ∷ []) ∷ []) ∷ [])) BadPolicy 5
  -- (LABELS (F) 1) and (LABELS ((F)) 1): a definition that is an atom has no place of its own
  pub atom_defined : IsRefused (call at.LABELS (words (f ∷ []) ∷ number 1 ∷ [])) BadForm 3
  pub without_parameters : IsRefused (call at.LABELS (list (words (f ∷ []) ∷ []) ∷ number 1 ∷ [])) BadForm 0
  -- #'(LAMBDA (X &REST) X) and #'(LAMBDA (T) X)
  pub rest_of_none : IsRefused (lambda_form (words (x ∷ at.LAMBDA_LIST_REST ∷ [])) (word x ∷ [])) BadForm 6
  pub constant_parameter : IsRefused (lambda_form (list (form truth ∷ [])) (word x ∷ [])) BadForm 5
  -- ((F X) 1), #'(FOO) and (COND X)
  pub not_lambda : IsRefused (list (words (f ∷ x ∷ []) ∷ number 1 ∷ [])) BadForm 3
  pub not_function : IsRefused (call at.FUNCTION (words (foo ∷ []) ∷ [])) BadForm 2
  pub not_clause : IsRefused (words (at.COND ∷ x ∷ [])) BadForm 1
  -- (PSETQ T 1), refused when its SETQ comes
  pub psetq_of_constant : IsRefused (call at.PSETQ (form truth ∷ number 1 ∷ [])) BadForm 2
  -- (ASSERT X)
  pub assert : IsRefused (words (base_symbol (codes "ASSERT") ∷ x ∷ [])) UnknownOperator 1

-- ---- limits

pub record Limits : Type 0 where
  -- (IF X 1 2) with room for four nodes, and for three
  pub four_nodes : GivesLimited 3996 1000 1000 (call at.IF (word x ∷ number 1 ∷ number 2 ∷ []))
      (tree.If (place 3) (tree.Global (place 3) x) (int_at 3 1) (int_at 3 2))
  pub three_nodes : IsLimited 3997 1000 1000 (call at.IF (word x ∷ number 1 ∷ number 2 ∷ [])) TooManyNodes 3
  -- (F (F)) with two levels, and with one
  pub two_levels : GivesLimited 0 2 1000 (call f (call f [] ∷ [])) (call_at 2 f (call_at 0 f [] ∷ []))
  pub one_level : IsLimited 0 1 1000 (call f (call f [] ∷ [])) TooNested 0
  -- (PROGN (PROGN 1)) where two forms without a node may stand, and one
  pub chain_of_two : GivesLimited 0 1000 2 (call at.PROGN (call at.PROGN (number 1 ∷ []) ∷ [])) (int_at 1 1)
  pub chain_of_one : IsLimited 0 1000 1 (call at.PROGN (call at.PROGN (number 1 ∷ []) ∷ [])) TooNested 1
  -- (THE (MEMBER 1 2) X): one node for THE, three for the type, and one for X
  pub type_counts : IsLimited 3996 1000 1000 (call at.THE (call at.MEMBER (number 1 ∷ number 2 ∷ []) ∷ word x ∷ [])) TooManyNodes 5
  pub type_counted : GivesLimited 3995 1000 1000 (call at.THE (call at.MEMBER (number 1 ∷ number 2 ∷ []) ∷ word x ∷ []))
      (tree.The (place 5) (Member (Int (pos 1) ∷ Int (pos 2) ∷ [])) (tree.Global (place 5) x))

-- ---- what is counted and known after a form

pub record Worlds : Type 0 where
  -- (IF X 1 2), and (LET ((X 1)) (DECLARE (FIXNUM X)) X), where LET counts its variable, and the check its type
  pub of_if : Counts (call at.IF (word x ∷ number 1 ∷ number 2 ∷ [])) 4 1 0
  pub of_let : Counts (let_form x (number 1) (declare_fixnum x ∷ word x ∷ [])) 6 2 0
  -- (DEFUN F (X) (DECLARE (FIXNUM X)) (F X)), where the function counts its parameter and the type of its check
  pub of_defun : Counts (call at.DEFUN (word f ∷ words (x ∷ []) ∷ declare_fixnum x ∷ words (f ∷ x ∷ []) ∷ [])) 11 4 1
  -- #'(LAMBDA (&OPTIONAL (X 1 S) &REST R) X)
  pub of_lambda : Counts (lambda_form (list (word at.LAMBDA_LIST_OPTIONAL ∷ call x (number 1 ∷ word s ∷ []) ∷ word at.LAMBDA_LIST_REST ∷ word r ∷ [])) (word x ∷ [])) 6 4 1
  -- (TAGBODY X (GO X))
  pub of_tagbody : Counts (call at.TAGBODY (word x ∷ words (at.GO ∷ x ∷ []) ∷ [])) 2 2 0
  -- (DEFVAR X 1), (DECLAIM (SPECIAL X) (FIXNUM Y)) and (DECLAIM (OPTIMIZE (SAFETY 3)))
  pub defvar : Leaves (call at.DEFVAR (word x ∷ number 1 ∷ [])) (x ∷ []) [] (make_policy 1 1)
  pub declaim : Leaves (call at.DECLAIM (words (at.SPECIAL ∷ x ∷ []) ∷ words (fixnum_symbol ∷ y ∷ []) ∷ [])) (x ∷ []) (typed y fixnum ∷ []) (make_policy 1 1)
  pub optimize : Leaves (call at.DECLAIM (call at.OPTIMIZE (call at.SAFETY (number 3 ∷ []) ∷ []) ∷ [])) [] [] (make_policy 1 3)
  -- (LOCALLY (DECLARE (SPECIAL X) (OPTIMIZE SAFETY)) X), which proclaims nothing
  pub locally : Leaves (call at.LOCALLY (call at.DECLARE (words (at.SPECIAL ∷ x ∷ []) ∷ words (at.OPTIMIZE ∷ at.SAFETY ∷ []) ∷ []) ∷ word x ∷ [])) [] [] (make_policy 1 1)

-- all of them
pub record FurtherExamples : Type 0 where
  pub declarations : Declarations
  pub parameters : Parameters
  pub macros : FurtherMacros
  pub places : FurtherPlaces
  pub refusals : FurtherRefusals
  pub limits : Limits
  pub worlds : Worlds
