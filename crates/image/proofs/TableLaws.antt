-- Tables that are read are the tables that were written, and what was written is read again.
use Rattle.std.proofs.Common.{◌≡◌, ℕ, zero, suc, ◌-◌, ◌^◌, ◌<◌, ◌≤◌, Bool, true, cond, eqb, ◌&&◌, List, [], ◌∷◌, ◌++◌, length, Option, Some, None, Ok, refl, sym, ap, subst, ◌∙◌, append_assoc, arith}
use Rattle.std.specs.List.{flat_map, list_all}
use Rattle.std.specs.Int.{w32, to_le_bytes}
use Rattle.std.proofs.lemmas.Bool.{and_parts, and_from, eqb-true}
use Rattle.std.proofs.lemmas.List.{append-nil, nil_from_length}
use Rattle.debug_info.specs.declared.rows.SiteRow.{SiteRow}
use Rattle.debug_info.specs.declared.rows.FunRow.{FunRow}
use Rattle.debug_info.specs.declared.rows.VarRow.{VarRow}
use Rattle.debug_info.specs.Spelling.{text_bytes, site_bytes, function_bytes, variable_bytes, table_bytes, tables_bytes}
use Rattle.debug_info.specs.Tables.{Tables, IsTables, is_text, is_site, is_function, is_variable, is_above, are_rising, are_sites, are_functions}
use Rattle.image.specs.declared.fault.ImageKind.TheVariants as kinds
use Rattle.image.specs.Fields.{◌>>=◌, fault, number}
use Rattle.image.specs.Rows.{text_row, site_row, function_row, variable_row, or_wrong, rows, table, text_table, site_table, function_table, variable_table, debug_of}
use Rattle.image.proofs.FieldLaws.{IsBytes, bind_ok, passed_ok, ok_is, Takes, Takes-then, wide32, number_takes, number_again}
use Rattle.image.proofs.RowLaws.{IsRow, text_takes, text_again, site_behind, site_takes, site_again, function_behind, function_takes, function_again, variable_takes, variable_again}
use Rattle.image.proofs.Sizes.{counts}

-- rows that are right one by one, each behind the one before it
abbrev pub are_rows : {X : Type 0} → (Option ℕ → X → Bool) → (X → Option ℕ) → Option ℕ → List X → Bool
are_rows is_right address before [] = true
are_rows is_right address before (r ∷ rs) = is_right before r && are_rows is_right address (address r) rs

or_wrong_ok : {X : Type 0} (end : ℕ) (rest : List ℕ) (o : Option X) (x : X) → or_wrong end rest o ≡ Ok x → o ≡ Some x
or_wrong_ok end rest (Some y) x e = ap (λ z. Some z) (ok_is y x e)
or_wrong_ok end rest None x e = absurd cc

-- rows that were read: what they took, that they are right, and how many they are
pub record AreRead {X : Type 0} (spelled : List X → List ℕ) (bytes : List ℕ) (are_right : List X → Bool) (x : List X × List ℕ) : Type 0 where
  pub takes : Takes bytes (spelled x.0) x.1
  pub right : are_right x.0 ≡ true

module _ {X : Type 0} (row : Option ℕ → List ℕ → Option (X × List ℕ)) (address : X → Option ℕ) (spelled : X → List ℕ) (is_right : Option ℕ → X → Bool) where
  rows_take : ((before : Option ℕ) (bytes : List ℕ) (x : X × List ℕ) → IsBytes bytes → row before bytes ≡ Some x → IsRow spelled (is_right before) bytes x)
      → (end count : ℕ) (before : Option ℕ) (bytes : List ℕ) (x : List X × List ℕ) → IsBytes bytes → rows row address end count before bytes ≡ Ok x
      → AreRead (flat_map spelled) bytes (are_rows is_right address before) x × (length x.0 ≡ count)
  unfolding rows
  rows_take law end zero before bytes x fits e =
      let made : List X × List ℕ = ([], bytes) in
      let none : AreRead (flat_map spelled) bytes (are_rows is_right address before) made = record { takes = record { parts = refl; rest_fits = fits }; right = refl } in
      subst (λ (y : List X × List ℕ). AreRead (flat_map spelled) bytes (are_rows is_right address before) y × (length y.0 ≡ 0)) (ok_is made x e) (none, refl)
  rows_take law end (suc count) before bytes x fits e =
      let a = bind_ok (or_wrong end bytes (row before bytes)) (λ first. (rows row address end count (address first.0) first.1 >>= λ others. Ok (first.0 ∷ others.0, others.1))) x e in
      let first = a.0 in
      let b = bind_ok (rows row address end count (address first.0) first.1) (λ others. Ok (first.0 ∷ others.0, others.1)) x a.2 in
      let others = b.0 in
      let one = law before bytes first fits (or_wrong_ok end bytes (row before bytes) first a.1) in
      let more = rows_take law end count (address first.0) first.1 others one.takes.rest_fits b.1 in
      let made : List X × List ℕ = (first.0 ∷ others.0, others.1) in
      let both : AreRead (flat_map spelled) bytes (are_rows is_right address before) made = record {
        takes = Takes-then bytes (spelled first.0) first.1 (flat_map spelled others.0) others.1 one.takes more.0.takes;
        right = and_from (is_right before first.0) (are_rows is_right address (address first.0) others.0) one.right more.0.right;
      } in
      subst (λ (y : List X × List ℕ). AreRead (flat_map spelled) bytes (are_rows is_right address before) y × (length y.0 ≡ suc count)) (ok_is made x b.2) (both, ap suc more.1)

  rows_again : ((before : Option ℕ) (x : X) (rest : List ℕ) → is_right before x ≡ true → row before (spelled x ++ rest) ≡ Some (x, rest))
      → (end : ℕ) (before : Option ℕ) (xs : List X) (rest : List ℕ) → are_rows is_right address before xs ≡ true
      → rows row address end (length xs) before (flat_map spelled xs ++ rest) ≡ Ok (xs, rest)
  unfolding rows
  rows_again law end before [] rest right = refl
  rows_again law end before (x ∷ xs) rest right =
      let both = and_parts (is_right before x) (are_rows is_right address (address x) xs) right in
      ap (rows row address end (suc (length xs)) before) (append_assoc (spelled x) (flat_map spelled xs) rest)
      ∙ rw (law before x (flat_map spelled xs ++ rest) both.0, rows_again law end (address x) xs rest both.1) refl

  pub table_takes : ((before : Option ℕ) (bytes : List ℕ) (x : X × List ℕ) → IsBytes bytes → row before bytes ≡ Some x → IsRow spelled (is_right before) bytes x)
      → (end : ℕ) (bytes : List ℕ) (x : List X × List ℕ) → IsBytes bytes → table row address end bytes ≡ Ok x
      → AreRead (table_bytes spelled) bytes (are_rows is_right address None) x
  unfolding table
  table_takes law end bytes x fits e =
      let a = bind_ok (or_wrong end bytes (number w32 bytes)) (λ count. rows row address end count.0 None count.1) x e in
      let count = a.0 in
      let t = number_takes w32 (2 ^ 32) wide32 bytes count fits (or_wrong_ok end bytes (number w32 bytes) count a.1) in
      let u = rows_take law end count.0 None count.1 x t.0.rest_fits a.2 in
      let both = Takes-then bytes (to_le_bytes w32 count.0) count.1 (flat_map spelled x.0) x.1 t.0 u.0.takes in
      record { takes = subst (λ (n : ℕ). Takes bytes (to_le_bytes w32 n ++ flat_map spelled x.0) x.1) (sym u.1) both; right = u.0.right }

  pub table_again : ((before : Option ℕ) (x : X) (rest : List ℕ) → is_right before x ≡ true → row before (spelled x ++ rest) ≡ Some (x, rest))
      → (end : ℕ) (xs : List X) (rest : List ℕ) → length xs < 2 ^ 32 → are_rows is_right address None xs ≡ true
      → table row address end (table_bytes spelled xs ++ rest) ≡ Ok (xs, rest)
  unfolding table
  table_again law end xs rest few right =
      ap (table row address end) (append_assoc (to_le_bytes w32 (length xs)) (flat_map spelled xs) rest)
      ∙ rw (number_again w32 (2 ^ 32) wide32 (length xs) (flat_map spelled xs ++ rest) few) (rows_again law end None xs rest right)

-- ---- the rules by another recursion

all_is : {X : Type 0} (p : X → Bool) (before : Option ℕ) (xs : List X) → are_rows (λ _ x. p x) (λ _. None) before xs ≡ list_all p xs
all_is p before [] = refl
all_is p before (x ∷ xs) = ap (λ (b : Bool). p x && b) (all_is p None xs)

rising_is : {X : Type 0} (address : X → ℕ) (p : X → Bool) (before : Option ℕ) (xs : List X)
    → are_rows (λ b x. is_above b (address x) && p x) (λ x. Some (address x)) before xs ≡ are_rising address p before xs
rising_is address p before [] = refl
rising_is address p before (x ∷ xs) = ap (λ (b : Bool). (is_above before (address x) && p x) && b) (rising_is address p (Some (address x)) xs)

-- ---- the four tables

abbrev texts_right : List (List ℕ) → Bool
texts_right xs = are_rows (λ _ x. is_text x) (λ _. None) None xs

abbrev sites_right : ℕ → List SiteRow → Bool
sites_right texts xs = are_rows (site_behind texts) (λ r. Some r.pc) None xs

abbrev functions_right : ℕ → List FunRow → Bool
functions_right texts xs = are_rows (function_behind texts) (λ r. Some r.start) None xs

abbrev variables_right : ℕ → List VarRow → Bool
variables_right texts xs = are_rows (λ _ r. is_variable texts r) (λ _. None) None xs

texts_take : (end : ℕ) (bytes : List ℕ) (x : List (List ℕ) × List ℕ) → IsBytes bytes → text_table end bytes ≡ Ok x → AreRead (table_bytes text_bytes) bytes texts_right x
texts_take end bytes x fits e = table_takes (λ _ b. text_row b) (λ _. None) text_bytes (λ _ t. is_text t) (λ _ b y f h. text_takes b y f h) end bytes x fits e

sites_take : (texts end : ℕ) (bytes : List ℕ) (x : List SiteRow × List ℕ) → IsBytes bytes → site_table texts end bytes ≡ Ok x → AreRead (table_bytes site_bytes) bytes (sites_right texts) x
sites_take texts end bytes x fits e = table_takes (site_row texts) (λ r. Some r.pc) site_bytes (site_behind texts) (site_takes texts) end bytes x fits e

functions_take : (texts end : ℕ) (bytes : List ℕ) (x : List FunRow × List ℕ) → IsBytes bytes → function_table texts end bytes ≡ Ok x → AreRead (table_bytes function_bytes) bytes (functions_right texts) x
functions_take texts end bytes x fits e = table_takes (function_row texts) (λ r. Some r.start) function_bytes (function_behind texts) (function_takes texts) end bytes x fits e

variables_take : (texts end : ℕ) (bytes : List ℕ) (x : List VarRow × List ℕ) → IsBytes bytes → variable_table texts end bytes ≡ Ok x → AreRead (table_bytes variable_bytes) bytes (variables_right texts) x
variables_take texts end bytes x fits e = table_takes (λ _ b. variable_row texts b) (λ _. None) variable_bytes (λ _ r. is_variable texts r) (λ _ b y f h. variable_takes texts b y f h) end bytes x fits e

-- tables that were read from a whole section
pub record AreTables (bytes : List ℕ) (t : Tables) : Type 0 where
  pub spelled : bytes ≡ tables_bytes t.texts t.sites t.functions t.variables
  pub texts : list_all is_text t.texts ≡ true
  pub sites : are_sites (length t.texts) None t.sites ≡ true
  pub functions : are_functions (length t.texts) None t.functions ≡ true
  pub variables : list_all (is_variable (length t.texts)) t.variables ≡ true

pub debug_takes : (end : ℕ) (bytes : List ℕ) (t : Tables) → IsBytes bytes → debug_of end bytes ≡ Ok t → AreTables bytes t
unfolding debug_of tables_bytes
debug_takes end bytes t fits e =
    let made : List (List ℕ) → List SiteRow → List FunRow → List VarRow → Tables = λ ts ss fs vs. record { texts = ts; sites = ss; functions = fs; variables = vs } in
    let last = λ (texts : List (List ℕ) × List ℕ) (sites : List SiteRow × List ℕ) (functions : List FunRow × List ℕ) (variables : List VarRow × List ℕ).
    cond (eqb (length variables.1) 0) (Ok (made texts.0 sites.0 functions.0 variables.0)) (fault (end - length variables.1) kinds.Debug) in
    let a = bind_ok (text_table end bytes) (λ texts. (site_table (length texts.0) end texts.1 >>= λ sites. (function_table (length texts.0) end sites.1 >>= λ functions. (variable_table (length texts.0) end functions.1 >>= λ variables. last texts sites functions variables)))) t e in
    let texts = a.0 in
    let b = bind_ok (site_table (length texts.0) end texts.1) (λ sites. (function_table (length texts.0) end sites.1 >>= λ functions. (variable_table (length texts.0) end functions.1 >>= λ variables. last texts sites functions variables))) t a.2 in
    let sites = b.0 in
    let d = bind_ok (function_table (length texts.0) end sites.1) (λ functions. (variable_table (length texts.0) end functions.1 >>= λ variables. last texts sites functions variables)) t b.2 in
    let functions = d.0 in
    let f = bind_ok (variable_table (length texts.0) end functions.1) (λ variables. last texts sites functions variables) t d.2 in
    let variables = f.0 in
    let g = passed_ok (eqb (length variables.1) 0) (record { offset = end - length variables.1; kind = kinds.Debug }) (made texts.0 sites.0 functions.0 variables.0) t f.2 in
    let p = texts_take end bytes texts fits a.1 in
    let q = sites_take (length texts.0) end texts.1 sites p.takes.rest_fits b.1 in
    let r = functions_take (length texts.0) end sites.1 functions q.takes.rest_fits d.1 in
    let s = variables_take (length texts.0) end functions.1 variables r.takes.rest_fits f.1 in
    let rs = Takes-then sites.1 (table_bytes function_bytes functions.0) functions.1 (table_bytes variable_bytes variables.0) variables.1 r.takes s.takes in
    let qrs = Takes-then texts.1 (table_bytes site_bytes sites.0) sites.1 (table_bytes function_bytes functions.0 ++ table_bytes variable_bytes variables.0) variables.1 q.takes rs in
    let pqrs = Takes-then bytes (table_bytes text_bytes texts.0) texts.1 (table_bytes site_bytes sites.0 ++ (table_bytes function_bytes functions.0 ++ table_bytes variable_bytes variables.0)) variables.1 p.takes qrs in
    let ended : variables.1 ≡ [] = nil_from_length variables.1 (eqb-true (length variables.1) 0 g.0) in
    let whole : List ℕ = table_bytes text_bytes texts.0 ++ (table_bytes site_bytes sites.0 ++ (table_bytes function_bytes functions.0 ++ table_bytes variable_bytes variables.0)) in
    let all : AreTables bytes (made texts.0 sites.0 functions.0 variables.0) = record {
      spelled = pqrs.parts ∙ ap (λ (rest : List ℕ). whole ++ rest) ended ∙ append-nil whole;
      texts = sym (all_is is_text None texts.0) ∙ p.right;
      sites = sym (rising_is (λ (x : SiteRow). x.pc) (is_site (length texts.0)) None sites.0) ∙ q.right;
      functions = sym (rising_is (λ (x : FunRow). x.start) (is_function (length texts.0)) None functions.0) ∙ r.right;
      variables = sym (all_is (is_variable (length texts.0)) None variables.0) ∙ s.right;
    } in
    subst (AreTables bytes) g.1 all

pub IsTables-from_read : (bytes : List ℕ) (t : Tables) → length bytes ≤ 268435456 → AreTables bytes t → IsTables t
IsTables-from_read bytes t short h =
    record { texts = h.texts; sites = h.sites; functions = h.functions; variables = h.variables; size = let len = ap length h.spelled in omega (arith, short, len) }

pub debug_again : (end : ℕ) (t : Tables) → IsTables t → debug_of end (tables_bytes t.texts t.sites t.functions t.variables) ≡ Ok t
unfolding debug_of tables_bytes
debug_again end t h =
    let fits = counts t h.size in
    let few : length t.texts < 2 ^ 32 = omega (arith, fits.texts) in
    let texts = length t.texts in
    let b = table_bytes site_bytes t.sites in
    let d = table_bytes function_bytes t.functions in
    let f = table_bytes variable_bytes t.variables in
    let one : text_table end (table_bytes text_bytes t.texts ++ (b ++ (d ++ f))) ≡ Ok (t.texts, b ++ (d ++ f))
    = table_again (λ _ x. text_row x) (λ _. None) text_bytes (λ _ x. is_text x) (λ _ x rest r. text_again x rest r) end t.texts (b ++ (d ++ f)) few (all_is is_text None t.texts ∙ h.texts) in
    let two : site_table texts end (b ++ (d ++ f)) ≡ Ok (t.sites, d ++ f)
    = table_again (site_row texts) (λ r. Some r.pc) site_bytes (site_behind texts) (site_again texts few) end t.sites (d ++ f) (omega (arith, fits.sites)) (rising_is (λ (x : SiteRow). x.pc) (is_site texts) None t.sites ∙ h.sites) in
    let three : function_table texts end (d ++ f) ≡ Ok (t.functions, f)
    = table_again (function_row texts) (λ r. Some r.start) function_bytes (function_behind texts) (function_again texts few) end t.functions f (omega (arith, fits.functions)) (rising_is (λ (x : FunRow). x.start) (is_function texts) None t.functions ∙ h.functions) in
    let four : variable_table texts end (f ++ []) ≡ Ok (t.variables, [])
    = table_again (λ _ x. variable_row texts x) (λ _. None) variable_bytes (λ _ r. is_variable texts r) (λ _ x rest r. variable_again texts few x rest r) end t.variables [] (omega (arith, fits.variables)) (all_is (is_variable texts) None t.variables ∙ h.variables) in
    let last : variable_table texts end f ≡ Ok (t.variables, []) = ap (variable_table texts end) (sym (append-nil f)) ∙ four in
    rw (one, two, three, last) refl
