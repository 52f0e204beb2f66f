-- The code of a node with parts, by the list of its parts.
use Rattle.std.proofs.Common.{refl, sym, ap, subst, ◌∙◌, arith, append_assoc, append-nil, length-append}
use Rattle.std.proofs.lemmas.List.{at_drop_more}
use Rattle.std.specs.Prelude.{◌≡◌, ℕ, zero, suc, ◌+◌, ◌*◌, ◌^◌, ◌<◌, ◌≤◌, Bool, true, false, ◌&&◌, ◌==◌, All, List, [], ◌∷◌, ◌++◌, length, drop, slice_index_or}
use Rattle.std.proofs.lemmas.Bool.Decides.{nat_tests}
use Rattle.std.specs.declared.vec.Vec.{Vec}
use Rattle.std.specs.declared.alloc.Global.{Global}
use Rattle.std.specs.Prelude.{Box}
use Rattle.lisp_base.specs.declared.types.TypeSpec.{TypeSpec}
use Rattle.lisp_base.specs.Reading.{spec_of}
use Rattle.lisp_base.specs.declared.primitives.Primitive.{Primitive as Operation}
use Rattle.lisp_base.specs.declared.primitives.Primitive.TheVariants as op
use Rattle.core_form.specs.declared.tree.Core.{Core as Core'}
use Rattle.core_form.specs.declared.tree.Form.TheVariants as variant
use Rattle.core_form.specs.Tree.{Core, If, Progn, Primitive, The, Cores, no_core, core}
use Rattle.core_form.specs.declared.tree.TopForm.{TopForm}
use Rattle.core_form.specs.Reading.{form_of, core_of, cores_list, top_of, tops_of}
use Rattle.core_form.specs.Laws.{ReadsProgn, ReadsPrimitive}
use Rattle.compiler.specs.declared.slot.Slot.{Slot}
use Rattle.compiler.specs.Templates.{nil_slots, check_slots, write_slots, if_slots, test_slots, skip}
use Rattle.compiler.specs.Code.{code_of, sequence_of, codes_of, is_served, are_served, forms_served, is_one, is_file, is_character_type}
use Rattle.compiler.specs.Compiled.{IsNear}
use Rattle.compiler.proofs.Nodes.{and_left, and_right}
use Rattle.compiler.proofs.Sizes.{near_first, near_rest}

-- ---- lists of parts

pub codes_split : (e : Core) (es : Cores) → codes_of (core e es) ≡ code_of e ++ codes_of es
codes_split e no_core = sym (append-nil (code_of e))
codes_split e (core f es) = refl

sequence_is : (e : Core) (es : Cores) → sequence_of (core e es) ≡ codes_of (core e es)
sequence_is e no_core = refl
sequence_is e (core f es) = ap (λ (x : List Slot). code_of e ++ x) (sequence_is f es)

codes_no_longer : (es : Cores) → length (codes_of es) ≤ length (sequence_of es)
codes_no_longer no_core = omega arith
codes_no_longer (core e es) = omega (arith, ap length (sequence_is e es))

pub part_served : (cs : List Core') (i : ℕ) (d : Core') → i < length cs → are_served (cores_list cs) ≡ true → is_served (core_of (slice_index_or cs i d)) ≡ true
part_served [] i d lt h = absurd (omega arith)
part_served (c ∷ cs) zero d lt h = and_left (is_served (core_of c)) (are_served (cores_list cs)) h
part_served (c ∷ cs) (suc i) d lt h = part_served cs i d (omega arith) (and_right (is_served (core_of c)) (are_served (cores_list cs)) h)

pub part_within : (cs : List Core') (i : ℕ) (d : Core') → i < length cs → length (code_of (core_of (slice_index_or cs i d))) ≤ length (codes_of (cores_list cs))
part_within [] i d lt = absurd (omega arith)
part_within (c ∷ cs) zero d lt =
    omega (arith, ap length (codes_split (core_of c) (cores_list cs)), length-append (code_of (core_of c)) (codes_of (cores_list cs)))
part_within (c ∷ cs) (suc i) d lt =
    omega (arith, part_within cs i d (omega arith), ap length (codes_split (core_of c) (cores_list cs)), length-append (code_of (core_of c)) (codes_of (cores_list cs)))

-- one part more
pub one_more_part : (cs : List Core') (i : ℕ) (x : Core') (before next total : List Slot) → i < length cs → x ≡ slice_index_or cs i x → next ≡ code_of (core_of x) →
    before ++ codes_of (cores_list (drop i cs)) ≡ total → (before ++ next) ++ codes_of (cores_list (drop (i + 1) cs)) ≡ total
one_more_part cs i x before next total lt is made so_far =
    let rest = drop (i + 1) cs in
    let opened : codes_of (cores_list (drop i cs)) ≡ code_of (core_of x) ++ codes_of (cores_list rest) =
    (at_drop_more (λ (xs : List Core'). codes_of (cores_list xs)) cs i x lt ∙ ap (λ (y : Core'). codes_of (cores_list (y ∷ rest))) (sym is)) ∙ codes_split (core_of x) (cores_list rest) in
    let joined : (before ++ next) ++ codes_of (cores_list rest) ≡ before ++ (next ++ codes_of (cores_list rest)) = append_assoc before next (codes_of (cores_list rest)) in
    let named : before ++ (next ++ codes_of (cores_list rest)) ≡ before ++ (code_of (core_of x) ++ codes_of (cores_list rest)) =
    ap (λ (y : List Slot). before ++ (y ++ codes_of (cores_list rest))) made in
    joined ∙ (named ∙ (ap (λ (y : List Slot). before ++ y) (sym opened) ∙ so_far))

-- ---- a sequence

is_progn : ReadsProgn → (c : Core') (v : Vec Core' Global) → c.form ≡ variant.Progn v → core_of c ≡ Progn c.place (cores_list v.items)
is_progn reads c v h = ap (form_of c.place) h ∙ reads c.place v

-- what a test of emptiness tells of a list of that length
pub is_none : (n m : ℕ) (b : Bool) → b ≡ (n == 0) → b ≡ true → n ≡ m → m ≡ 0
is_none n m b h t e = let z : (n == 0) ≡ true = sym h ∙ t in grind (arith, nat_tests)

pub is_some : (n m : ℕ) (b : Bool) → b ≡ (n == 0) → b ≡ false → n ≡ m → (m == 0) ≡ false
is_some n m b h t e = ap (λ (k : ℕ). k == 0) (sym e) ∙ (sym h ∙ t)

none_of_length : {A : Type 0} (xs : List A) → length xs ≡ 0 → xs ≡ []
none_of_length [] h = refl
none_of_length (x ∷ xs) h = absurd (omega arith)

pub record PartsServed (parts : List Core') : Type 0 where
  pub served : are_served (cores_list parts) ≡ true
  pub near : length (codes_of (cores_list parts)) < 2 ^ 18

pub progn_parts : ReadsProgn → (c : Core') (v : Vec Core' Global) (parts : List Core') → c.form ≡ variant.Progn v → parts ≡ v.items →
    is_served (core_of c) ≡ true → length (code_of (core_of c)) < 2 ^ 18 → PartsServed parts
progn_parts reads c v parts h e served near =
    let k = is_progn reads c v h in
    let s : are_served (cores_list v.items) ≡ true = ap is_served (sym k) ∙ served in
    let n : length (sequence_of (cores_list v.items)) < 2 ^ 18 = subst (λ (x : Core). length (code_of x) < 2 ^ 18) k near in
    subst PartsServed (sym e) (record { served = s; near = omega (arith, codes_no_longer (cores_list v.items), n) })

pub empty_progn : ReadsProgn → (c : Core') (v : Vec Core' Global) → c.form ≡ variant.Progn v → length v.items ≡ 0 → nil_slots ≡ code_of (core_of c)
empty_progn reads c v h none =
    let k = is_progn reads c v h ∙ ap (λ (xs : List Core'). Progn c.place (cores_list xs)) (none_of_length v.items none) in
    ap code_of (sym k)

some_sequence : (cs : List Core') (n : ℕ) → (length cs == 0) ≡ false → codes_of (cores_list cs) ≡ sequence_of (cores_list cs)
some_sequence [] n h = absurd (cc)
some_sequence (c ∷ cs) n h = sym (sequence_is (core_of c) (cores_list cs))

pub some_progn : ReadsProgn → (c : Core') (v : Vec Core' Global) (parts : List Core') → c.form ≡ variant.Progn v → parts ≡ v.items → (length v.items == 0) ≡ false → codes_of (cores_list parts) ≡ code_of (core_of c)
some_progn reads c v parts h e some =
    (ap (λ (xs : List Core'). codes_of (cores_list xs)) e ∙ some_sequence v.items 0 some) ∙ ap code_of (sym (is_progn reads c v h))

-- ---- IF and THE

pub record PartServed (c : Core') : Type 0 where
  pub served : is_served (core_of c) ≡ true
  pub near : length (code_of (core_of c)) < 2 ^ 18

is_if : (c : Core') (x y z : Box Core' Global) → c.form ≡ variant.If x y z → core_of c ≡ If c.place (core_of x.value) (core_of y.value) (core_of z.value)
is_if c x y z h = ap (form_of c.place) h

third_shorter : (a b c : List Slot) → length c ≤ length (if_slots a b c)
third_shorter a b c =
    let rest = skip (length c) ∷ c in
    let k1 = length-append a (test_slots (length b) ++ (b ++ rest)) in
    let k2 = length-append (test_slots (length b)) (b ++ rest) in
    let k3 = length-append b rest in
    omega (arith, k1, k2, k3)

pub last_part : (c : Core') (x y z : Box Core' Global) (d : Core') → c.form ≡ variant.If x y z → d ≡ z.value → is_served (core_of c) ≡ true → length (code_of (core_of c)) < 2 ^ 18 → PartServed d
last_part c x y z d h e served near =
    let k = is_if c x y z h in
    let a = is_served (core_of x.value) in
    let b = is_served (core_of y.value) in
    let l = is_served (core_of z.value) in
    let all : (a && (b && l)) ≡ true = ap is_served (sym k) ∙ served in
    let n : length (if_slots (code_of (core_of x.value)) (code_of (core_of y.value)) (code_of (core_of z.value))) < 2 ^ 18 =
    subst (λ (w : Core). length (code_of w) < 2 ^ 18) k near in
    let m = third_shorter (code_of (core_of x.value)) (code_of (core_of y.value)) (code_of (core_of z.value)) in
    subst PartServed (sym e) (record { served = and_right b l (and_right a (b && l) all); near = omega (arith, n, m) })

is_the : (c : Core') (t : TypeSpec) (x : Box Core' Global) → c.form ≡ variant.The t x → core_of c ≡ The c.place (spec_of t) (core_of x.value)
is_the c t x h = ap (form_of c.place) h

pub checked_part : (c : Core') (t : TypeSpec) (x : Box Core' Global) (d : Core') → c.form ≡ variant.The t x → d ≡ x.value → is_served (core_of c) ≡ true → length (code_of (core_of c)) < 2 ^ 18 → PartServed d
checked_part c t x d h e served near =
    let k = is_the c t x h in
    let a = is_served (core_of x.value) in
    let b = is_character_type (spec_of t) in
    let all : (is_file c.place && (b && a)) ≡ true = ap is_served (sym k) ∙ served in
    let n : length (code_of (core_of x.value) ++ check_slots c.place) < 2 ^ 18 = subst (λ (w : Core). length (code_of w) < 2 ^ 18) k near in
    let m = length-append (code_of (core_of x.value)) (check_slots c.place) in
    subst PartServed (sym e) (record { served = and_right b a (and_right (is_file c.place) (b && a) all); near = omega (arith, n, m) })

-- ---- WRITE-CHAR

is_write : ReadsPrimitive → (c : Core') (o : Operation) (v : Vec Core' Global) → c.form ≡ variant.Primitive o v → o ≡ op.WriteChar →
    core_of c ≡ Primitive c.place op.WriteChar (cores_list v.items)
is_write reads c o v h w = (ap (form_of c.place) h ∙ reads c.place o v) ∙ ap (λ (x : Operation). Primitive c.place x (cores_list v.items)) w

pub write_parts : ReadsPrimitive → (c : Core') (o : Operation) (v : Vec Core' Global) (parts : List Core') → c.form ≡ variant.Primitive o v → o ≡ op.WriteChar → parts ≡ v.items →
    is_served (core_of c) ≡ true → length (code_of (core_of c)) < 2 ^ 18 → PartsServed parts
write_parts reads c o v parts h w e served near =
    let k = is_write reads c o v h w in
    let es = cores_list v.items in
    let both : (is_file c.place && (is_one es && are_served es)) ≡ true = ap is_served (sym k) ∙ served in
    let s : are_served es ≡ true = and_right (is_one es) (are_served es) (and_right (is_file c.place) (is_one es && are_served es) both) in
    let n : length (codes_of es ++ (check_slots c.place ++ write_slots)) < 2 ^ 18 = subst (λ (x : Core). length (code_of x) < 2 ^ 18) k near in
    subst PartsServed (sym e) (record { served = s; near = omega (arith, length-append (codes_of es) (check_slots c.place ++ write_slots), n) })

pub write_is : ReadsPrimitive → (c : Core') (o : Operation) (v : Vec Core' Global) (parts : List Core') (code : List Slot) → c.form ≡ variant.Primitive o v → o ≡ op.WriteChar → parts ≡ v.items →
    code ≡ codes_of (cores_list parts) → code ++ (check_slots c.place ++ write_slots) ≡ code_of (core_of c)
write_is reads c o v parts code h w e made =
    ap (λ (x : List Slot). x ++ (check_slots c.place ++ write_slots)) (made ∙ ap (λ (xs : List Core'). codes_of (cores_list xs)) e) ∙ ap code_of (sym (is_write reads c o v h w))

-- ---- top-level forms

pub form_served : (fs : List TopForm) (i : ℕ) (d : TopForm) → i < length fs → forms_served (tops_of fs) ≡ true → is_served (core_of (slice_index_or fs i d).core) ≡ true
form_served [] i d lt h = absurd (omega arith)
form_served (f ∷ fs) zero d lt h = and_left (is_served (core_of f.core)) (forms_served (tops_of fs)) h
form_served (f ∷ fs) (suc i) d lt h = form_served fs i d (omega arith) (and_right (is_served (core_of f.core)) (forms_served (tops_of fs)) h)

pub form_near : (fs : List TopForm) (i : ℕ) (d : TopForm) → i < length fs → All IsNear (tops_of fs) → length (code_of (core_of (slice_index_or fs i d).core)) < 2 ^ 18
form_near [] i d lt h = absurd (omega arith)
form_near (f ∷ fs) zero d lt h = let k : 4 * length (code_of (core_of f.core)) < 2 ^ 20 = near_first (top_of f) (tops_of fs) h in omega (arith, k)
form_near (f ∷ fs) (suc i) d lt h = form_near fs i d (omega arith) (near_rest (top_of f) (tops_of fs) h)
