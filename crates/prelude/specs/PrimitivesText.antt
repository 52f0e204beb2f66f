-- The part of the prelude's text with the primitives as functions, tests of objects, keys of lambda lists (ANSI Common Lisp; helpers with `%` are this project's own).
use Rattle.std.specs.Prelude.{ℕ, List, ◌++◌, codes}

unfoldable pub primitives_text : List ℕ
primitives_text =
    codes "; The primitives as functions. In its own body a function's name means the function, so there\n" ++
    codes "; the primitive is reached by another name: a helper %NAME where no other name has it.\n" ++
    codes "\n" ++
    codes "(defun %+ (a b) (+ a b))\n" ++
    codes "(defun %- (a b) (- a b))\n" ++
    codes "(defun %* (a b) (* a b))\n" ++
    codes "(defun %truncate (n d) (truncate n d))\n" ++
    codes "(defun %floor (n d) (floor n d))\n" ++
    codes "(defun %rem (n d) (rem n d))\n" ++
    codes "(defun %mod (n d) (mod n d))\n" ++
    codes "(defun %ash (n places) (ash n places))\n" ++
    codes "(defun %rplacd (c x) (rplacd c x))\n" ++
    codes "(defun %char-code (c) (char-code c))\n" ++
    codes "(defun %code-char (code) (code-char code))\n" ++
    codes "(defun %read-char (stream eof-error-p eof-value) (read-char stream eof-error-p eof-value))\n" ++
    codes "(defun %symbol-value (s) (symbol-value s))\n" ++
    codes "(defun %symbol-function (s) (symbol-function s))\n" ++
    codes "(defun %set (s x) (set s x))\n" ++
    codes "(defun %boundp (s) (boundp s))\n" ++
    codes "(defun %fboundp (s) (fboundp s))\n" ++
    codes "(defun %values-list (l) (values-list l))\n" ++
    codes "\n" ++
    codes "; Conses.\n" ++
    codes "\n" ++
    codes "(defun cons (a b) (rplacd (list a) b))\n" ++
    codes "(defun list (&rest l) l)\n" ++
    codes "(defun car (l)\n" ++
    codes "  (declare (type list l))\n" ++
    codes "  (first l))\n" ++
    codes "(defun cdr (l)\n" ++
    codes "  (declare (type list l))\n" ++
    codes "  (rest l))\n" ++
    codes "(defun rplaca (c x)\n" ++
    codes "  (declare (type cons c))\n" ++
    codes "  (%nthset 0 c x)\n" ++
    codes "  c)\n" ++
    codes "(defun rplacd (c x)\n" ++
    codes "  (declare (type cons c))\n" ++
    codes "  (%rplacd c x))\n" ++
    codes "\n" ++
    codes "; Tests of objects.\n" ++
    codes "\n" ++
    codes "(defun eq (a b) (eql a b))\n" ++
    codes "(defun eql (a b) (eq a b))\n" ++
    codes "(defun not (x) (if x nil t))\n" ++
    codes "(defun null (x) (if x nil t))\n" ++
    codes "(defun consp (x) (typep x 'cons))\n" ++
    codes "(defun listp (x) (typep x 'list))\n" ++
    codes "(defun atom (x) (typep x 'atom))\n" ++
    codes "(defun symbolp (x) (typep x 'symbol))\n" ++
    codes "(defun keywordp (x) (typep x 'keyword))\n" ++
    codes "(defun integerp (x) (typep x 'integer))\n" ++
    codes "(defun numberp (x) (typep x 'number))\n" ++
    codes "(defun characterp (x) (typep x 'character))\n" ++
    codes "(defun functionp (x) (typep x 'function))\n" ++
    codes "(defun stringp (x) (typep x 'string))\n" ++
    codes "(defun simple-string-p (x) (typep x 'simple-string))\n" ++
    codes "(defun vectorp (x) (typep x 'vector))\n" ++
    codes "(defun simple-vector-p (x) (typep x 'simple-vector))\n" ++
    codes "\n" ++
    codes "; Symbols, errors and multiple values.\n" ++
    codes "\n" ++
    codes "(defun symbol-name (s)\n" ++
    codes "  (declare (type symbol s))\n" ++
    codes "  (string s))\n" ++
    codes "(defun symbol-value (s)\n" ++
    codes "  (declare (type symbol s))\n" ++
    codes "  (%symbol-value s))\n" ++
    codes "(defun symbol-function (s)\n" ++
    codes "  (declare (type symbol s))\n" ++
    codes "  (%symbol-function s))\n" ++
    codes "(defun set (s x)\n" ++
    codes "  (declare (type (and symbol (not (or (member nil t) keyword))) s))\n" ++
    codes "  (%set s x))\n" ++
    codes "(defun boundp (s)\n" ++
    codes "  (declare (type symbol s))\n" ++
    codes "  (%boundp s))\n" ++
    codes "(defun fboundp (s)\n" ++
    codes "  (declare (type symbol s))\n" ++
    codes "  (%fboundp s))\n" ++
    codes "(defun error (datum &rest arguments) (%error datum arguments))\n" ++
    codes "(defun values-list (l)\n" ++
    codes "  (declare (type list l))\n" ++
    codes "  (%values-list l))\n" ++
    codes "(defun identity (x) x)\n" ++
    codes "\n" ++
    codes "; The keys of lambda lists, and what backquote appends.\n" ++
    codes "\n" ++
    codes "(defun %keyp (l keys)\n" ++
    codes "  (declare (type list l keys))\n" ++
    codes "  (loop\n" ++
    codes "    (if (null l) (return t))\n" ++
    codes "    (unless (and (consp (cdr l))\n" ++
    codes "                 (dolist (k keys nil)\n" ++
    codes "                   (if (eq k (car l)) (return t))))\n" ++
    codes "      (return nil))\n" ++
    codes "    (setq l (cdr (cdr l)))))\n" ++
    codes "(defun %key (l k)\n" ++
    codes "  (declare (type list l))\n" ++
    codes "  (loop\n" ++
    codes "    (cond ((null l) (return nil))\n" ++
    codes "          ((eq (car l) k) (return (cdr l))))\n" ++
    codes "    (setq l (cdr (cdr l)))))\n" ++
    codes "(defun %append (a b)\n" ++
    codes "  (let* ((head (list nil)) (tail head))\n" ++
    codes "    (dolist (x a)\n" ++
    codes "      (setq tail (cdr (rplacd tail (list x)))))\n" ++
    codes "    (rplacd tail b)\n" ++
    codes "    (cdr head)))\n"
