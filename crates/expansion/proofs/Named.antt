-- The names of operators stand where their symbols say, and exactly the names of the lists are left out or taken.
use Rattle.std.specs.Prelude.{◌≡◌, refl, ℕ, zero, suc, ◌+◌, ◌≤◌, ◌<◌, ◌&&◌, ◌||◌, if◌then◌else◌, Bool, true, false, not, List, [], ◌∷◌, slice_get, length, nat_le, nat_lt}
use Rattle.std.specs.List.{list_any, list_all}
use Rattle.std.proofs.Common.{ap, ◌∙◌, sym, arith, inl, inr}
use Rattle.std.proofs.Math.Bool.{and-false}
use Rattle.std.proofs.lemmas.Bool.{and_parts, cases_lt, le-ltb, leb-true}
use Rattle.std.proofs.lemmas.Option.{slice_get_past}
use Rattle.lisp_base.specs.BaseNames.{base_names, lambda_list_names, left_out_names, helper_names, primitive_names, special_operators, builtin_macros, defining_macros, macro_names, direct_names, prelude_names}
use Rattle.expansion.specs.declared.operator.Operator.TheVariants as op
use Rattle.expansion.specs.declared.operator.Direct.TheVariants as direct
use Rattle.expansion.specs.Operators.{is_left_out, is_reserved, is_between, reserved_ranges}
use Rattle.expansion.specs.Named.{EachOperatorIsNamed, AreTheOperators, EachDirectIsNamed, DirectCallsAreDirect, is_among, has_name, LeftOutAreTheNames, taken_names, ReservedAreTheNames}

pub each_operator : EachOperatorIsNamed
unfolding base_names lambda_list_names left_out_names helper_names
each_operator op.Quote = refl
each_operator op.Function = refl
each_operator op.Setq = refl
each_operator op.If = refl
each_operator op.Progn = refl
each_operator op.Let = refl
each_operator op.LetInOrder = refl
each_operator op.Flet = refl
each_operator op.Labels = refl
each_operator op.Locally = refl
each_operator op.The = refl
each_operator op.Block = refl
each_operator op.ReturnFrom = refl
each_operator op.Tagbody = refl
each_operator op.Go = refl
each_operator op.Catch = refl
each_operator op.Throw = refl
each_operator op.UnwindProtect = refl
each_operator op.MultipleValueCall = refl
each_operator op.MultipleValueProg1 = refl
each_operator op.Values = refl
each_operator op.Funcall = refl
each_operator op.Apply = refl
each_operator op.Typep = refl
each_operator op.Defun = refl
each_operator op.Defvar = refl
each_operator op.Defparameter = refl
each_operator op.Defconstant = refl
each_operator op.Declaim = refl
each_operator op.InPackage = refl

pub are_the_operators : AreTheOperators
unfolding special_operators defining_macros
are_the_operators = refl

pub each_direct : EachDirectIsNamed
unfolding base_names lambda_list_names left_out_names helper_names
each_direct direct.Add = refl
each_direct direct.Subtract = refl
each_direct direct.Multiply = refl
each_direct direct.LogAnd = refl
each_direct direct.LogIor = refl
each_direct direct.LogXor = refl
each_direct direct.Increment = refl
each_direct direct.Decrement = refl
each_direct direct.Truncate = refl
each_direct direct.Floor = refl
each_direct direct.ReadChar = refl
each_direct direct.Error = refl
each_direct direct.Eql = refl
each_direct direct.Char = refl
each_direct direct.Not = refl
each_direct direct.Null = refl
each_direct direct.Consp = refl
each_direct direct.Listp = refl
each_direct direct.Atom = refl
each_direct direct.Symbolp = refl
each_direct direct.Keywordp = refl
each_direct direct.Integerp = refl
each_direct direct.Numberp = refl
each_direct direct.Characterp = refl
each_direct direct.Functionp = refl
each_direct direct.Stringp = refl
each_direct direct.SimpleStringP = refl
each_direct direct.Vectorp = refl
each_direct direct.SimpleVectorP = refl

pub direct_calls_are_direct : DirectCallsAreDirect
unfolding direct_names
direct_calls_are_direct = refl

-- ---- exactly the names of a list

same_truth : Bool → Bool → Bool
same_truth a b = if a then b else not b

-- of these names, whose places begin at a number, exactly those of a list pass the test of places
exactly : (ℕ → Bool) → List (List ℕ) → ℕ → List (List ℕ) → Bool
exactly holds taken n [] = true
exactly holds taken n (name ∷ names) = same_truth (holds n) (is_among taken name) && exactly holds taken (n + 1) names

same_is : (a b : Bool) → same_truth a b ≡ true → a ≡ b
unfolding same_truth
same_is true true e = refl
same_is true false e = sym e
same_is false true e = e
same_is false false e = refl

within : (holds : ℕ → Bool) (taken names : List (List ℕ)) (n i m : ℕ) → exactly holds taken n names ≡ true → m ≡ n + i → i < length names → holds m ≡ has_name taken (slice_get names i)
unfolding exactly
within holds taken [] n i m e p h = absurd (omega arith)
within holds taken (name ∷ names) n zero m e p h =
    let b = and_parts (same_truth (holds n) (is_among taken name)) (exactly holds taken (n + 1) names) e in
    let q : m ≡ n = omega arith in
    ap holds q ∙ same_is (holds n) (is_among taken name) b.0
within holds taken (name ∷ names) n (suc i) m e p h =
    let b = and_parts (same_truth (holds n) (is_among taken name)) (exactly holds taken (n + 1) names) e in
    within holds taken names (n + 1) i m b.1 (omega arith) (omega arith)

exact : (holds : ℕ → Bool) (taken names : List (List ℕ)) (n : ℕ) → exactly holds taken 0 names ≡ true → ((m : ℕ) → length names ≤ m → holds m ≡ false) → holds n ≡ has_name taken (slice_get names n)
exact holds taken names n e past =
    elim (cases_lt n (length names)) [
      | inl h ↦ within holds taken names 0 n n e (omega arith) h
      | inr h ↦ past n h ∙ sym (ap (has_name taken) (slice_get_past names n h))
    ]

number_left_out : ℕ → Bool
number_left_out n = nat_le 183 n && nat_lt n 205

left_out_exactly : exactly number_left_out left_out_names 0 base_names ≡ true
unfolding exactly same_truth number_left_out base_names lambda_list_names left_out_names helper_names
left_out_exactly = refl

past_left_out : (m : ℕ) → length base_names ≤ m → number_left_out m ≡ false
unfolding number_left_out base_names lambda_list_names left_out_names helper_names
past_left_out m h = let above : 205 ≤ m = omega arith in ap (λ b. nat_le 183 m && b) (le-ltb m 205 above) ∙ and-false (nat_le 183 m)

pub left_out_are_the_names : LeftOutAreTheNames
unfolding is_left_out number_left_out
left_out_are_the_names s = exact number_left_out left_out_names base_names s.0 left_out_exactly past_left_out

number_reserved : ℕ → Bool
number_reserved n = list_any (is_between n) reserved_ranges

reserved_exactly : exactly number_reserved taken_names 0 base_names ≡ true
unfolding exactly same_truth number_reserved base_names lambda_list_names left_out_names helper_names special_operators builtin_macros defining_macros macro_names primitive_names direct_names prelude_names
reserved_exactly = refl

-- past the ends of all ranges there is no number of a range
past_ranges : (rs : List (ℕ × ℕ)) (top n : ℕ) → top ≤ n → list_all (λ (r : ℕ × ℕ). nat_le r.1 top) rs ≡ true → list_any (is_between n) rs ≡ false
past_ranges [] top n h e = refl
past_ranges (r ∷ rs) top n h e =
    let b = and_parts (nat_le r.1 top) (list_all (λ (x : ℕ × ℕ). nat_le x.1 top) rs) e in
    let end : r.1 ≤ top = leb-true r.1 top b.0 in
    let above : r.1 ≤ n = omega arith in
    let out : is_between n r ≡ false = ap (λ c. nat_le r.0 n && c) (le-ltb n r.1 above) ∙ and-false (nat_le r.0 n) in
    ap (λ c. c || list_any (is_between n) rs) out ∙ past_ranges rs top n h b.1

past_reserved : (m : ℕ) → length base_names ≤ m → number_reserved m ≡ false
unfolding number_reserved base_names lambda_list_names left_out_names helper_names
past_reserved m h = past_ranges reserved_ranges (length base_names) m h refl

pub reserved_are_the_names : ReservedAreTheNames
unfolding is_reserved number_reserved
reserved_are_the_names s = exact number_reserved taken_names base_names s.0 reserved_exactly past_reserved
