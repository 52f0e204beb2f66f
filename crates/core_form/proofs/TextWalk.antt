-- What the parts of a node write, one after another.
use Rattle.std.proofs.Common.{◌≡◌, ℕ, List, [], ◌∷◌, ◌++◌, length, take, sym, ap, ◌∙◌, codes}
use Rattle.lisp_base.specs.InStore.{Store}
use Rattle.core_form.specs.declared.text_page.Known.{Known}
use Rattle.core_form.specs.Tree.{Core, Bindings, Definitions, Items, Parameter, Optionals, lambda}
use Rattle.std.specs.Prelude.{Option}
use Rattle.core_form.specs.TextNames.{binding_names, function_names, tag_names, parameter_names, optional_names, given_names}
use Rattle.core_form.specs.Text.{group, core_text, binding_texts, definition_texts, item_texts, lambda_text, parameter_texts, optional_texts, rest_texts}
use Rattle.core_form.specs.TextParts.{head_texts, part_texts, let_texts, labels_texts}
use Rattle.core_form.specs.TextPage.{Page, put, puts, opened, closed, bound, left_with}
use Rattle.core_form.proofs.TextPages.{names_beside, more_names, list_written, left_behind, same_names, more_words}

-- a list in which each word stands for an element
pub shut : (p0 p1 p2 : Page) (texts : List Known → List (List ℕ)) → p1 ≡ opened p0 → p2 ≡ puts p1 (texts p1.names) → closed p2 ≡ put p0 (group (texts p0.names))
shut p0 p1 p2 texts e1 e2 =
    ap closed (e2 ∙ ap (λ (k : Page). puts k (texts k.names)) e1) ∙ list_written p0 (texts p0.names)

-- what a node does, and then its parts
pub node_written : (st : Store) (c : Core) (p0 p1 p2 p3 : Page) → p1 ≡ opened p0 → p2 ≡ puts p1 (head_texts st p1.names c) → p3 ≡ puts p2 (part_texts st p2.names c) →
    closed p3 ≡ put p0 (group (head_texts st p0.names c ++ part_texts st p0.names c))
node_written st c p0 p1 p2 p3 e1 e2 e3 =
    let H = head_texts st p0.names c in
    let P = part_texts st p0.names c in
    let f2 : p2 ≡ puts (opened p0) H = e2 ∙ ap (λ (k : Page). puts k (head_texts st k.names c)) e1 in
    let names : p2.names ≡ p0.names = ap (λ (k : Page). k.names) f2 ∙ same_names (opened p0) H in
    let f3 : p3 ≡ puts (puts (opened p0) H) P = (e3 ∙ ap (λ (ns : List Known). puts p2 (part_texts st ns c)) names) ∙ ap (λ (k : Page). puts k P) f2 in
    ap closed (f3 ∙ more_words (opened p0) H P) ∙ list_written p0 (H ++ P)

pub let_written : (st : Store) (bs : Bindings) (body : Core) (p0 p1 p2 p3 p4 : Page) →
    p1 ≡ put p0 (group (binding_texts st p0.names bs)) → p2 ≡ bound p1 (binding_names bs) →
    p3 ≡ put p2 (core_text st p2.names body) → p4 ≡ left_with p3 (take (length p0.names) p3.names) →
    p4 ≡ puts p0 (let_texts st p0.names bs body)
let_written st bs body p0 p1 p2 p3 p4 e1 e2 e3 e4 =
    let b = group (binding_texts st p0.names bs) in
    let ns = binding_names bs in
    let t = core_text st (p0.names ++ ns) body in
    let f2 : p2 ≡ bound (put p0 b) ns = e2 ∙ ap (λ (k : Page). bound k ns) e1 in
    let f3 : p3 ≡ puts (bound (put p0 b) ns) (t ∷ []) = e3 ∙ ap (λ (k : Page). put k (core_text st k.names body)) f2 in
    e4 ∙ left_behind (put p0 b) ns (t ∷ []) p3 f3

pub labels_written : (st : Store) (ds : Definitions) (body : Core) (p0 p1 p2 p3 p4 : Page) →
    p1 ≡ bound p0 (function_names ds) → p2 ≡ put p1 (group (definition_texts st p1.names ds)) →
    p3 ≡ put p2 (core_text st p2.names body) → p4 ≡ left_with p3 (take (length p0.names) p3.names) →
    p4 ≡ puts p0 (labels_texts st p0.names ds body)
labels_written st ds body p0 p1 p2 p3 p4 e1 e2 e3 e4 =
    let fs = function_names ds in
    let d = group (definition_texts st (p0.names ++ fs) ds) in
    let t = core_text st (p0.names ++ fs) body in
    let f2 : p2 ≡ put (bound p0 fs) d = e2 ∙ ap (λ (k : Page). put k (group (definition_texts st k.names ds))) e1 in
    let f3 : p3 ≡ puts (bound p0 fs) (d ∷ t ∷ []) = e3 ∙ ap (λ (k : Page). put k (core_text st k.names body)) f2 in
    e4 ∙ left_behind p0 fs (d ∷ t ∷ []) p3 f3

pub items_written : (st : Store) (is : Items) (p0 p1 p2 p3 : Page) →
    p1 ≡ bound p0 (tag_names is) → p2 ≡ puts p1 (item_texts st p1.names is) → p3 ≡ left_with p2 (take (length p0.names) p2.names) →
    p3 ≡ puts p0 (item_texts st (p0.names ++ tag_names is) is)
items_written st is p0 p1 p2 p3 e1 e2 e3 =
    let ts = tag_names is in
    let ws = item_texts st (p0.names ++ ts) is in
    let f2 : p2 ≡ puts (bound p0 ts) ws = e2 ∙ ap (λ (k : Page). puts k (item_texts st k.names is)) e1 in
    e3 ∙ left_behind p0 ts ws p2 f2

pub lambda_written : (st : Store) (n : ℕ) (xs : List Parameter) (os : Optionals) (r : Option Parameter) (body : Core) (p0 p1 p2 p3 p4 p5 p6 p7 p8 p9 p10 p11 : Page) →
    p1 ≡ opened p0 → p2 ≡ put p1 (codes "lambda") → p3 ≡ opened p2 → p4 ≡ bound (puts p3 (parameter_texts st xs)) (parameter_names xs) →
    p5 ≡ bound (puts p4 (optional_texts st p4.names os)) (optional_names os) → p6 ≡ puts p5 (rest_texts st r) → p7 ≡ bound p6 (given_names r) →
    p8 ≡ closed p7 → p9 ≡ put p8 (core_text st p8.names body) → p10 ≡ closed p9 → p11 ≡ left_with p10 (take (length p0.names) p10.names) →
    p11 ≡ put p0 (lambda_text st p0.names (lambda n xs os r body))
lambda_written st n xs os r body p0 p1 p2 p3 p4 p5 p6 p7 p8 p9 p10 p11 e1 e2 e3 e4 e5 e6 e7 e8 e9 e10 e11 =
    let a = parameter_names xs in
    let b = optional_names os in
    let c = given_names r in
    let A = parameter_texts st xs in
    let O = optional_texts st (p0.names ++ a) os in
    let R = rest_texts st r in
    let N = bound (bound (bound p0 a) b) c in
    let M = put (opened N) (codes "lambda") in
    let t = core_text st (((p0.names ++ a) ++ b) ++ c) body in
    let word = codes "lambda" in
    let f3 : p3 ≡ opened (put (opened p0) word) = e3 ∙ ap opened (e2 ∙ ap (λ (k : Page). put k word) e1) in
    let Q = opened (put (opened (bound p0 a)) word) in
    let f4 : p4 ≡ puts Q A = (e4 ∙ ap (λ (k : Page). bound (puts k A) a) f3) ∙ sym (names_beside (opened (put (opened p0) word)) a A) in
    let names4 : p4.names ≡ p0.names ++ a = ap (λ (k : Page). k.names) f4 ∙ same_names Q A in
    let f5 : p5 ≡ bound (puts (puts Q A) O) b = (e5 ∙ ap (λ (ns : List Known). bound (puts p4 (optional_texts st ns os)) b) names4) ∙ ap (λ (k : Page). bound (puts k O) b) f4 in
    let g5 : p5 ≡ puts (bound Q b) (A ++ O) = (f5 ∙ ap (λ (k : Page). bound k b) (more_words Q A O)) ∙ sym (names_beside Q b (A ++ O)) in
    let f6 : p6 ≡ puts (bound Q b) ((A ++ O) ++ R) = (e6 ∙ ap (λ (k : Page). puts k R) g5) ∙ more_words (bound Q b) (A ++ O) R in
    let f7 : p7 ≡ puts (opened M) ((A ++ O) ++ R) = (e7 ∙ ap (λ (k : Page). bound k c) f6) ∙ sym (names_beside (bound Q b) c ((A ++ O) ++ R)) in
    let W = group ((A ++ O) ++ R) in
    let f8 : p8 ≡ put M W = (e8 ∙ ap closed f7) ∙ list_written M ((A ++ O) ++ R) in
    let f9 : p9 ≡ puts (opened N) (word ∷ W ∷ t ∷ []) = e9 ∙ ap (λ (k : Page). put k (core_text st k.names body)) f8 in
    let f10 : p10 ≡ put N (group (word ∷ W ∷ t ∷ [])) = (e10 ∙ ap closed f9) ∙ list_written N (word ∷ W ∷ t ∷ []) in
    let X = group (word ∷ W ∷ t ∷ []) in
    let all : N ≡ bound p0 ((a ++ b) ++ c) = ap (λ (k : Page). bound k c) (more_names p0 a b) ∙ more_names p0 (a ++ b) c in
    let g10 : p10 ≡ puts (bound p0 ((a ++ b) ++ c)) (X ∷ []) = f10 ∙ ap (λ (k : Page). put k X) all in
    e11 ∙ left_behind p0 ((a ++ b) ++ c) (X ∷ []) p10 g10
