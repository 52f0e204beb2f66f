-- What small forms expand to, or why and where they are refused (ANSI Common Lisp, the entries of the operators; the numbers of variables,
-- functions, blocks and tags, and the places, are this project's own).
use Rattle.std.specs.Prelude.{pos, negsuc, [], ◌∷◌, codes, Some, None}
use Rattle.lisp_base.specs.declared.base_symbols.TheConstants as at
use Rattle.lisp_base.specs.declared.primitives.Primitive.TheVariants as q
use Rattle.lisp_base.specs.declared.types.TypeName.TheVariants as name
use Rattle.lisp_base.specs.declared.values.Val.TheVariants.{Int, Sym, Ref}
use Rattle.lisp_base.specs.Sort.{nil, truth, symbol, object}
use Rattle.lisp_base.specs.Spec.{Named, Member}
use Rattle.lisp_base.specs.Tables.{base_symbol}
use Rattle.lisp_forms.specs.Trees.{form, list, list_before}
use Rattle.core_form.specs.Tree as tree
use Rattle.core_form.specs.Tree.{no_binding, binding, no_optional, optional, lambda, no_definition, define, no_item, tag, step}
use Rattle.expansion.specs.declared.kind.ExpandKind.TheVariants.{BadForm, BadType, UnknownOperator, BadPolicy}
use Rattle.expansion.specs.ExampleForms.{FurtherSymbolsFollow, x, y, f, g, r, s, k, v, foo, keyword_k, fresh_1, fresh_2, fresh_3, fixnum_symbol, word, number, call, words, declare_fixnum, let_form, lambda_form, quote_form, place, Gives, GivesPlaced, IsRefused, quoted, int, null, local, global, fixnum, the_fixnum, cores, progn, if_node, primitive, call_global, variable, fixnum_variable, special_variable, let_node, let_two, function, required, set_local, set_global, is_node, the_node, labels, define_function, call_local, funcall, call_with_values, block, return_from, tagbody, go}

-- ---- constants, variables, sequences and conditions

pub record Simple : Type 0 where
  pub symbols : FurtherSymbolsFollow
  -- X, and 1
  pub free : Gives (word x) (global x)
  pub constant : Gives (number 1) (int 1)
  -- 'X
  pub quote : Gives (quote_form (word x)) (quoted (Sym x))
  -- (IF T 1) and (IF X 1 2)
  pub if_then : Gives (call at.IF (form truth ∷ number 1 ∷ [])) (if_node (quoted truth) (int 1) null)
  pub if_else : Gives (call at.IF (word x ∷ number 1 ∷ number 2 ∷ [])) (if_node (global x) (int 1) (int 2))
  -- (PROGN), (PROGN 1) and (PROGN 1 X)
  pub progn_of_none : Gives (call at.PROGN []) null
  pub progn_of_one : Gives (call at.PROGN (number 1 ∷ [])) (int 1)
  pub progn_of_two : Gives (call at.PROGN (number 1 ∷ word x ∷ [])) (progn (int 1 ∷ global x ∷ []))
  -- (SETQ), (SETQ X 1) and (SETQ X 1 Y X)
  pub setq_of_none : Gives (call at.SETQ []) null
  pub setq : Gives (call at.SETQ (word x ∷ number 1 ∷ [])) (set_global x (int 1))
  pub setq_of_two : Gives (call at.SETQ (word x ∷ number 1 ∷ word y ∷ word x ∷ []))
      (progn (set_global x (int 1) ∷ set_global y (global x) ∷ []))
  -- (THE FIXNUM X) and (TYPEP X 'FIXNUM)
  pub the : Gives (call at.THE (word fixnum_symbol ∷ word x ∷ [])) (the_fixnum (global x))
  pub typep : Gives (call at.TYPEP (word x ∷ quote_form (word fixnum_symbol) ∷ [])) (is_node fixnum (global x))
  -- (VALUES 1 X)
  pub values : Gives (call at.VALUES (number 1 ∷ word x ∷ [])) (tree.Values (place 0) (cores (int 1 ∷ global x ∷ [])))

-- ---- bindings and declarations

pub record Binding : Type 0 where
  -- (LET ((X 1)) X), and (LET () X)
  pub let_one : Gives (let_form x (number 1) (word x ∷ [])) (let_node (variable 1 x) (int 1) (local 1))
  pub let_none : Gives (call at.LET (form nil ∷ word x ∷ [])) (tree.Let (place 0) no_binding (global x))
  -- (LET ((X 1) (Y X)) Y), where the second X is the global one
  pub let_pair : Gives (call at.LET (list (call x (number 1 ∷ []) ∷ words (y ∷ x ∷ []) ∷ []) ∷ word y ∷ []))
      (let_two (variable 1 x) (int 1) (variable 2 y) (global x) (local 2))
  -- (LET ((X (LET ((Y 1)) Y))) X), where the outer variable comes first
  pub let_in_let : Gives (let_form x (let_form y (number 1) (word y ∷ [])) (word x ∷ []))
      (let_node (variable 1 x) (let_node (variable 2 y) (int 1) (local 2)) (local 1))
  -- (LET* ((X 1) (Y X)) (DECLARE (TYPE FIXNUM X)) Y)
  pub let_in_order : Gives (call at.LET_STAR (list (call x (number 1 ∷ []) ∷ words (y ∷ x ∷ []) ∷ []) ∷ call at.DECLARE (words (at.TYPE ∷ fixnum_symbol ∷ x ∷ []) ∷ []) ∷ word y ∷ []))
      (let_node (fixnum_variable 1 x) (the_fixnum (int 1)) (let_node (variable 2 y) (local 1) (local 2)))
  -- (LET* ((X 1) (X X)) (DECLARE (FIXNUM X)) X), where the declaration goes with the last binding
  pub let_twice : Gives (call at.LET_STAR (list (call x (number 1 ∷ []) ∷ words (x ∷ x ∷ []) ∷ []) ∷ declare_fixnum x ∷ word x ∷ []))
      (let_node (variable 1 x) (int 1) (let_node (fixnum_variable 2 x) (the_fixnum (local 1)) (local 2)))
  -- (LET ((X 1)) (DECLARE (FIXNUM X)) (SETQ X 2))
  pub setq_declared : Gives (let_form x (number 1) (declare_fixnum x ∷ call at.SETQ (word x ∷ number 2 ∷ []) ∷ []))
      (let_node (fixnum_variable 1 x) (the_fixnum (int 1)) (set_local 1 (the_fixnum (int 2))))
  -- (LOCALLY (DECLARE (FIXNUM *V*)) *V*)
  pub locally : Gives (call at.LOCALLY (declare_fixnum v ∷ word v ∷ [])) (the_fixnum (global v))
  -- (LET ((Y X)) (DECLARE (FIXNUM X)) (SETQ X Y)), where the declaration is of the body alone
  pub let_around : Gives (let_form y (word x) (declare_fixnum x ∷ call at.SETQ (word x ∷ word y ∷ []) ∷ []))
      (let_node (variable 1 y) (global x) (set_global x (the_fixnum (local 1))))
  -- (LET ((X 1)) (DECLARE (SPECIAL X)) X)
  pub special : Gives (let_form x (number 1) (call at.DECLARE (words (at.SPECIAL ∷ x ∷ []) ∷ []) ∷ word x ∷ []))
      (let_node (special_variable x) (int 1) (global x))
  -- (LOCALLY (DECLARE (OPTIMIZE (SPEED 2) (SAFETY 2))) X)
  pub optimize : Gives (call at.LOCALLY (call at.DECLARE (call at.OPTIMIZE (call at.SPEED (number 2 ∷ []) ∷ call at.SAFETY (number 2 ∷ []) ∷ []) ∷ []) ∷ word x ∷ []))
      (global x)

-- ---- functions

pub record Functions : Type 0 where
  -- #'F and (F 1)
  pub global_function : Gives (call at.FUNCTION (word f ∷ [])) (tree.FunGlobal (place 0) f)
  pub global_call : Gives (call f (number 1 ∷ [])) (call_global f (int 1 ∷ []))
  -- (FLET ((F (X) (F X))) (F 1)), where the inner F is the global one
  pub flet : Gives (call at.FLET (list (call f (words (x ∷ []) ∷ words (f ∷ x ∷ []) ∷ []) ∷ []) ∷ call f (number 1 ∷ []) ∷ []))
      (labels (define_function 1 f (required 0 (variable 2 x ∷ []) (block 3 f (call_global f (local 2 ∷ [])))) no_definition)
      (call_local 1 (int 1 ∷ [])))
  -- (LABELS ((F (X) (G X)) (G (Y) #'F)) (F 1))
  pub labels_see_all : Gives (call at.LABELS (list (call f (words (x ∷ []) ∷ words (g ∷ x ∷ []) ∷ []) ∷ call g (words (y ∷ []) ∷ words (at.FUNCTION ∷ f ∷ []) ∷ []) ∷ []) ∷ call f (number 1 ∷ []) ∷ []))
      (labels
      (define_function 1 f (required 0 (variable 3 x ∷ []) (block 4 f (call_local 2 (local 3 ∷ []))))
      (define_function 2 g (required 1 (variable 5 y ∷ []) (block 6 g (tree.FunLocal (place 0) 1))) no_definition))
      (call_local 1 (int 1 ∷ [])))
  -- (DEFUN F (X) (F X))
  pub defun : Gives (call at.DEFUN (word f ∷ words (x ∷ []) ∷ words (f ∷ x ∷ []) ∷ []))
      (progn (tree.SetFun (place 0) f (labels (define_function 1 f (required 0 (variable 2 x ∷ []) (block 3 f (call_local 1 (local 2 ∷ [])))) no_definition) (tree.FunLocal (place 0) 1)) ∷ quoted (Sym f) ∷ []))
  -- #'(LAMBDA (X &OPTIONAL (Y X S)) Y)
  pub optional_parameter : Gives (lambda_form (list (word x ∷ word at.LAMBDA_LIST_OPTIONAL ∷ words (y ∷ x ∷ s ∷ []) ∷ [])) (word y ∷ []))
      (function (lambda 0 (variable 1 x ∷ []) (optional (variable 2 y) (local 1) (Some (variable 3 s)) no_optional) None (local 2)))
  -- #'(LAMBDA (X &AUX (Y X)) Y)
  pub auxiliary : Gives (lambda_form (list (word x ∷ word at.LAMBDA_LIST_AUX ∷ words (y ∷ x ∷ []) ∷ [])) (word y ∷ []))
      (function (required 0 (variable 1 x ∷ []) (let_node (variable 2 y) (local 1) (local 2))))
  -- (LAMBDA (X) X)
  pub lambda_macro : Gives (call at.LAMBDA (words (x ∷ []) ∷ word x ∷ [])) (function (required 0 (variable 1 x ∷ []) (local 1)))
  -- #'(LAMBDA (&KEY (K 1 S)) K): the form has ten conses, so the next is the list (:K)
  pub key_parameter : Gives (lambda_form (list (word at.LAMBDA_LIST_KEY ∷ call k (number 1 ∷ word s ∷ []) ∷ [])) (word k ∷ []))
      (function (lambda 0 [] no_optional (Some (variable 1 fresh_1))
      (if_node (call_global at.HELPER_KEYP (local 1 ∷ quoted (Ref (object 10)) ∷ []))
      (let_node (variable 2 k)
      (if_node (call_global at.HELPER_KEY (local 1 ∷ quoted (Sym keyword_k) ∷ [])) (primitive q.Car (call_global at.HELPER_KEY (local 1 ∷ quoted (Sym keyword_k) ∷ []) ∷ [])) (int 1))
      (let_node (variable 3 s) (if_node (call_global at.HELPER_KEY (local 1 ∷ quoted (Sym keyword_k) ∷ [])) (quoted truth) null) (local 2)))
      (funcall (function (required 1 [] null)) (local 1 ∷ [])))))
  -- ((LAMBDA (X) X) 1)
  pub lambda_call : Gives (list (call at.LAMBDA (words (x ∷ []) ∷ word x ∷ []) ∷ number 1 ∷ [])) (let_node (variable 1 x) (int 1) (local 1))
  -- ((LAMBDA (&REST R) R) 1)
  pub rest_call : Gives (list (call at.LAMBDA (words (at.LAMBDA_LIST_REST ∷ r ∷ []) ∷ word r ∷ []) ∷ number 1 ∷ []))
      (funcall (function (lambda 0 [] no_optional (Some (variable 1 r)) (local 1))) (int 1 ∷ []))
  -- (FUNCALL X 1) and (APPLY X Y)
  pub funcall_form : Gives (call at.FUNCALL (word x ∷ number 1 ∷ [])) (funcall (global x) (int 1 ∷ []))
  pub apply : Gives (words (at.APPLY ∷ x ∷ y ∷ [])) (tree.Apply (place 0) (global x) (cores (global y ∷ [])))

-- ---- definitions of variables

pub record Definitions : Type 0 where
  -- (DEFVAR *V* 1) and (DEFVAR *V*)
  pub defvar : Gives (call at.DEFVAR (word v ∷ number 1 ∷ []))
      (progn (if_node (primitive q.Boundp (quoted (Sym v) ∷ [])) null (set_global v (int 1)) ∷ quoted (Sym v) ∷ []))
  pub defvar_alone : Gives (words (at.DEFVAR ∷ v ∷ [])) (quoted (Sym v))
  -- (DEFPARAMETER *V* 1)
  pub defparameter : Gives (call at.DEFPARAMETER (word v ∷ number 1 ∷ [])) (progn (set_global v (int 1) ∷ quoted (Sym v) ∷ []))
  -- (DECLAIM (FIXNUM *V*))
  pub declaim : Gives (call at.DECLAIM (words (fixnum_symbol ∷ v ∷ []) ∷ [])) null
  -- (IN-PACKAGE CL-USER)
  pub in_package : Gives (words (at.IN_PACKAGE ∷ at.CL_USER ∷ [])) null

-- ---- calls that are written otherwise

pub record Calls : Type 0 where
  -- (+), (+ X) and (+ 1 2 3)
  pub add_none : Gives (call at.ADD []) (int 0)
  pub add_one : Gives (words (at.ADD ∷ x ∷ [])) (the_node (Named name.Integer) (global x))
  pub add_three : Gives (call at.ADD (number 1 ∷ number 2 ∷ number 3 ∷ [])) (primitive q.Add (primitive q.Add (int 1 ∷ int 2 ∷ []) ∷ int 3 ∷ []))
  -- (- X) and (- X 1 Y)
  pub negate : Gives (words (at.SUBTRACT ∷ x ∷ [])) (primitive q.Subtract (int 0 ∷ global x ∷ []))
  pub subtract : Gives (call at.SUBTRACT (word x ∷ number 1 ∷ word y ∷ [])) (primitive q.Subtract (primitive q.Subtract (global x ∷ int 1 ∷ []) ∷ global y ∷ []))
  -- (LOGAND)
  pub logand_none : Gives (call (base_symbol (codes "LOGAND")) []) (quoted (Int (negsuc 0)))
  -- (1+ X), (TRUNCATE X) and (FLOOR X Y)
  pub increment : Gives (words (at.INCREMENT ∷ x ∷ [])) (primitive q.Add (global x ∷ int 1 ∷ []))
  pub truncate_one : Gives (words (base_symbol (codes "TRUNCATE") ∷ x ∷ [])) (primitive q.Truncate (global x ∷ int 1 ∷ []))
  pub floor_two : Gives (words (base_symbol (codes "FLOOR") ∷ x ∷ y ∷ [])) (primitive q.Floor (global x ∷ global y ∷ []))
  -- (NOT X), (CONSP X) and (EQL X Y)
  pub not_call : Gives (words (at.NOT ∷ x ∷ [])) (is_node (Named name.Null) (global x))
  pub consp : Gives (words (at.CONSP ∷ x ∷ [])) (is_node (Named name.Cons) (global x))
  pub eql : Gives (words (at.EQL ∷ x ∷ y ∷ [])) (primitive q.Eq (global x ∷ global y ∷ []))
  -- (READ-CHAR) and (ERROR X 1)
  pub read_char : Gives (call at.READ_CHAR []) (primitive q.ReadChar (null ∷ quoted truth ∷ null ∷ []))
  pub error : Gives (call at.ERROR (word x ∷ number 1 ∷ [])) (primitive q.Error (global x ∷ primitive q.List (int 1 ∷ []) ∷ []))
  -- (CAR X), and (CAR X Y), which is a call of the global function
  pub car : Gives (words (at.CAR ∷ x ∷ [])) (primitive q.Car (global x ∷ []))
  pub car_of_two : Gives (words (at.CAR ∷ x ∷ y ∷ [])) (call_global at.CAR (global x ∷ global y ∷ []))

-- ---- exits

pub record Exits : Type 0 where
  -- (BLOCK F (RETURN-FROM F 1))
  pub block_exit : Gives (call at.BLOCK (word f ∷ call at.RETURN_FROM (word f ∷ number 1 ∷ []) ∷ []))
      (block 1 f (return_from 1 (int 1)))
  -- (FLET ((F () (RETURN-FROM F))) (F))
  pub return_from_function : Gives (call at.FLET (list (call f (form nil ∷ words (at.RETURN_FROM ∷ f ∷ []) ∷ []) ∷ []) ∷ call f [] ∷ []))
      (labels (define_function 1 f (required 0 [] (block 2 f (return_from 2 null))) no_definition)
      (call_local 1 []))
  -- (TAGBODY X (GO 1) (F) 1 (GO X))
  pub tags : Gives (call at.TAGBODY (word x ∷ call at.GO (number 1 ∷ []) ∷ call f [] ∷ number 1 ∷ words (at.GO ∷ x ∷ []) ∷ []))
      (tagbody (tag 1 (Sym x) (step (go 2) (step (call_global f []) (tag 2 (Int (pos 1)) (step (go 1) no_item))))))
  -- (CATCH X 1) and (THROW X 1)
  pub catch : Gives (call at.CATCH (word x ∷ number 1 ∷ [])) (tree.Catch (place 0) (global x) (int 1))
  pub throw : Gives (call at.THROW (word x ∷ number 1 ∷ [])) (tree.Throw (place 0) (global x) (int 1))
  -- (UNWIND-PROTECT X 1 Y)
  pub unwind : Gives (call at.UNWIND_PROTECT (word x ∷ number 1 ∷ word y ∷ [])) (tree.Unwind (place 0) (global x) (progn (int 1 ∷ global y ∷ [])))
  -- (MULTIPLE-VALUE-PROG1 X)
  pub keep_values : Gives (words (at.MULTIPLE_VALUE_PROG1 ∷ x ∷ [])) (tree.MvProg1 (place 0) (global x) null)

-- ---- macros

pub record Macros : Type 0 where
  -- (WHEN X 1) and (WHEN X 1 Y)
  pub when : Gives (call at.WHEN (word x ∷ number 1 ∷ [])) (if_node (global x) (int 1) null)
  pub when_two : Gives (call at.WHEN (word x ∷ number 1 ∷ word y ∷ [])) (if_node (global x) (progn (int 1 ∷ global y ∷ [])) null)
  -- (COND (X) (T 1))
  pub cond : Gives (call at.COND (words (x ∷ []) ∷ list (form truth ∷ number 1 ∷ []) ∷ []))
      (let_node (variable 1 fresh_1) (global x) (if_node (local 1) (local 1) (if_node (quoted truth) (int 1) null)))
  -- (PUSH 1 X)
  pub push : Gives (call at.PUSH (number 1 ∷ word x ∷ [])) (set_global x (primitive q.Cons (int 1 ∷ global x ∷ [])))
  -- (PUSH 1 (CAR X))
  pub push_place : Gives (call at.PUSH (number 1 ∷ words (at.CAR ∷ x ∷ []) ∷ []))
      (let_two (variable 1 fresh_1) (int 1) (variable 2 fresh_2) (global x)
      (let_node (variable 3 fresh_3) (primitive q.Cons (local 1 ∷ primitive q.Car (local 2 ∷ []) ∷ []))
      (progn (primitive q.Rplaca (local 2 ∷ local 3 ∷ []) ∷ local 3 ∷ []))))
  -- (SETF (CAR X) 1)
  pub setf : Gives (call at.SETF (words (at.CAR ∷ x ∷ []) ∷ number 1 ∷ []))
      (let_two (variable 1 fresh_1) (global x) (variable 2 fresh_2) (int 1) (progn (primitive q.Rplaca (local 1 ∷ local 2 ∷ []) ∷ local 2 ∷ [])))
  -- (CASE X ((1 2) Y))
  pub case_keys : Gives (call at.CASE (word x ∷ list (list (number 1 ∷ number 2 ∷ []) ∷ word y ∷ []) ∷ []))
      (let_node (variable 1 fresh_1) (global x) (if_node (is_node (Member (Int (pos 1) ∷ Int (pos 2) ∷ [])) (local 1)) (global y) null))
  -- (DOTIMES (X 2) (F X))
  pub dotimes : Gives (call at.DOTIMES (call x (number 2 ∷ []) ∷ words (f ∷ x ∷ []) ∷ []))
      (block 1 (symbol 0) (let_two (variable 2 x) (int 0) (variable 3 fresh_1) (the_node (Named name.Integer) (int 2))
      (tagbody (tag 4 (Sym fresh_2)
      (step (if_node (primitive q.GreaterOrEqual (local 2 ∷ local 3 ∷ [])) (return_from 1 null) null)
      (step (call_global f (local 2 ∷ []))
      (step (set_local 2 (primitive q.Add (local 2 ∷ int 1 ∷ []))) (step (go 4) no_item))))))))
  -- (MULTIPLE-VALUE-BIND (X) Y X)
  pub bind_values : Gives (call at.MULTIPLE_VALUE_BIND (words (x ∷ []) ∷ word y ∷ word x ∷ []))
      (call_with_values (function (lambda 0 [] (optional (variable 1 x) null None no_optional) (Some (variable 2 fresh_1)) (local 1))) (global y ∷ []))

-- ---- places

pub record Places : Type 0 where
  -- (IF T (CAR X))
  pub of_form : GivesPlaced (call at.IF (form truth ∷ words (at.CAR ∷ x ∷ []) ∷ []))
      (tree.If (place 4) (tree.Quote (place 4) truth) (tree.Primitive (place 1) q.Car (cores (tree.Global (place 1) x ∷ []))) (tree.Quote (place 4) nil))
  -- X
  pub of_atom : GivesPlaced (word x) (tree.Global (place 1000) x)
  -- (LET ((X (CAR Y))) (DECLARE (FIXNUM X)) X)
  pub of_check : GivesPlaced (let_form x (words (at.CAR ∷ y ∷ [])) (declare_fixnum x ∷ word x ∷ []))
      (tree.Let (place 12) (binding (fixnum_variable 1 x) (tree.The (place 12) fixnum (tree.Primitive (place 1) q.Car (cores (tree.Global (place 1) y ∷ [])))) no_binding) (tree.Local (place 12) 1))
  -- (FLET ((F (X) X)) (F 1))
  pub of_definition : GivesPlaced (call at.FLET (list (call f (words (x ∷ []) ∷ word x ∷ []) ∷ []) ∷ call f (number 1 ∷ []) ∷ []))
      (tree.Labels (place 9) (define (place 3) 1 f (required 0 (variable 2 x ∷ []) (tree.Block (place 3) 3 f (tree.Local (place 3) 2))) no_definition)
      (tree.CallLocal (place 6) 1 (cores (tree.Quote (place 6) (Int (pos 1)) ∷ []))))
  -- (WHEN X (CAR Y))
  pub of_macro : GivesPlaced (call at.WHEN (word x ∷ words (at.CAR ∷ y ∷ []) ∷ []))
      (tree.If (place 4) (tree.Global (place 4) x) (tree.Primitive (place 1) q.Car (cores (tree.Global (place 1) y ∷ []))) (tree.Quote (place 4) nil))

-- ---- refusals

pub record Refusals : Type 0 where
  -- (PROGN 1 (IF))
  pub if_of_none : IsRefused (call at.PROGN (number 1 ∷ call at.IF [] ∷ [])) BadForm 0
  -- (LET ((X 1)) (THE FOO X))
  pub unknown_type : IsRefused (let_form x (number 1) (words (at.THE ∷ foo ∷ x ∷ []) ∷ [])) BadType 5
  -- (LET ((X 1)) (DECLARE (FOO X)) X)
  pub unknown_declaration : IsRefused (let_form x (number 1) (call at.DECLARE (words (foo ∷ x ∷ []) ∷ []) ∷ word x ∷ [])) BadType 10
  -- (DEFMACRO F)
  pub left_out : IsRefused (words (base_symbol (codes "DEFMACRO") ∷ f ∷ [])) UnknownOperator 1
  -- (LET ((NIL 1)) 1)
  pub constant_bound : IsRefused (call at.LET (list (list (form nil ∷ number 1 ∷ []) ∷ []) ∷ number 1 ∷ [])) BadForm 5
  -- (SETQ :K 1)
  pub constant_set : IsRefused (call at.SETQ (word keyword_k ∷ number 1 ∷ [])) BadForm 2
  -- (BLOCK X (RETURN-FROM Y 1)) and (GO X)
  pub no_block : IsRefused (call at.BLOCK (word x ∷ call at.RETURN_FROM (word y ∷ number 1 ∷ []) ∷ [])) BadForm 2
  pub no_tag : IsRefused (words (at.GO ∷ x ∷ [])) BadForm 1
  -- (LET () 1 (DECLARE (FIXNUM X)))
  pub late_declaration : IsRefused (call at.LET (form nil ∷ number 1 ∷ declare_fixnum x ∷ [])) BadForm 3
  -- (LOCALLY (DECLARE (OPTIMIZE SPEED)) 1)
  pub without_safety : IsRefused (call at.LOCALLY (call at.DECLARE (words (at.OPTIMIZE ∷ at.SPEED ∷ []) ∷ []) ∷ number 1 ∷ [])) BadPolicy 6
  -- (DEFUN CAR (X) X) and (FLET ((CAR (X) X)) 1)
  pub reserved : IsRefused (call at.DEFUN (word at.CAR ∷ words (x ∷ []) ∷ word x ∷ [])) BadForm 4
  pub reserved_local : IsRefused (call at.FLET (list (call at.CAR (words (x ∷ []) ∷ word x ∷ []) ∷ []) ∷ number 1 ∷ [])) BadForm 3
  -- #'(LAMBDA (&KEY (K)) K)
  pub key_alone : IsRefused (lambda_form (list (word at.LAMBDA_LIST_KEY ∷ words (k ∷ []) ∷ [])) (word k ∷ [])) BadForm 7
  -- (1 X), and (F . X)
  pub no_operator : IsRefused (list (number 1 ∷ word x ∷ [])) BadForm 1
  pub improper : IsRefused (list_before (word f ∷ []) (Sym x)) BadForm 0
  -- (WHEN)
  pub macro_syntax : IsRefused (call at.WHEN []) BadForm 0

-- all of them
pub record Examples : Type 0 where
  pub simple : Simple
  pub bindings : Binding
  pub functions : Functions
  pub definitions : Definitions
  pub calls : Calls
  pub exits : Exits
  pub macros : Macros
  pub places : Places
  pub refusals : Refusals
