-- The part of the prelude's text with functions of integers (ANSI Common Lisp; helpers with `%` are this project's own).
use Rattle.std.specs.Prelude.{ℕ, List, ◌++◌, codes}

unfoldable pub numbers_text : List ℕ
numbers_text =
    codes "\n" ++
    codes "; Sums, differences, products and quotients.\n" ++
    codes "\n" ++
    codes "(defun + (&rest l)\n" ++
    codes "  (let ((sum 0))\n" ++
    codes "    (dolist (x l sum)\n" ++
    codes "      (setq sum (%+ sum (the integer x))))))\n" ++
    codes "(defun - (x &rest l)\n" ++
    codes "  (declare (type integer x))\n" ++
    codes "  (if l\n" ++
    codes "      (dolist (y l x)\n" ++
    codes "        (setq x (%- x (the integer y))))\n" ++
    codes "      (%- 0 x)))\n" ++
    codes "(defun * (&rest l)\n" ++
    codes "  (let ((product 1))\n" ++
    codes "    (dolist (x l product)\n" ++
    codes "      (setq product (%* product (the integer x))))))\n" ++
    codes "(defun 1+ (x) (+ x 1))\n" ++
    codes "(defun 1- (x) (- x 1))\n" ++
    codes "(defun truncate (n &optional (d 1))\n" ++
    codes "  (declare (type integer n d))\n" ++
    codes "  (%truncate n d))\n" ++
    codes "(defun floor (n &optional (d 1))\n" ++
    codes "  (declare (type integer n d))\n" ++
    codes "  (%floor n d))\n" ++
    codes "(defun ceiling (n &optional (d 1))\n" ++
    codes "  (declare (type integer n d))\n" ++
    codes "  (multiple-value-bind (q r) (floor n d)\n" ++
    codes "    (if (= r 0)\n" ++
    codes "        (values q 0)\n" ++
    codes "        (values (+ q 1) (- r d)))))\n" ++
    codes "(defun rem (n d)\n" ++
    codes "  (declare (type integer n d))\n" ++
    codes "  (%rem n d))\n" ++
    codes "(defun mod (n d)\n" ++
    codes "  (declare (type integer n d))\n" ++
    codes "  (%mod n d))\n" ++
    codes "\n" ++
    codes "; Comparisons.\n" ++
    codes "\n" ++
    codes "(defun = (x &rest l)\n" ++
    codes "  (declare (type integer x))\n" ++
    codes "  (let ((same t))\n" ++
    codes "    (dolist (y l same)\n" ++
    codes "      (if (/= x y) (setq same nil)))))\n" ++
    codes "(defun /= (x &rest l)\n" ++
    codes "  (declare (type integer x))\n" ++
    codes "  (let ((distinct t))\n" ++
    codes "    (loop\n" ++
    codes "      (if (null l) (return distinct))\n" ++
    codes "      (dolist (y l)\n" ++
    codes "        (if (= x y) (setq distinct nil)))\n" ++
    codes "      (setq x (pop l)))))\n" ++
    codes "(defun < (x &rest l)\n" ++
    codes "  (declare (type integer x))\n" ++
    codes "  (let ((holds t))\n" ++
    codes "    (dolist (y l holds)\n" ++
    codes "      (if (>= x y) (setq holds nil))\n" ++
    codes "      (setq x y))))\n" ++
    codes "(defun > (x &rest l)\n" ++
    codes "  (declare (type integer x))\n" ++
    codes "  (let ((holds t))\n" ++
    codes "    (dolist (y l holds)\n" ++
    codes "      (if (<= x y) (setq holds nil))\n" ++
    codes "      (setq x y))))\n" ++
    codes "(defun <= (x &rest l)\n" ++
    codes "  (declare (type integer x))\n" ++
    codes "  (let ((holds t))\n" ++
    codes "    (dolist (y l holds)\n" ++
    codes "      (if (> x y) (setq holds nil))\n" ++
    codes "      (setq x y))))\n" ++
    codes "(defun >= (x &rest l)\n" ++
    codes "  (declare (type integer x))\n" ++
    codes "  (let ((holds t))\n" ++
    codes "    (dolist (y l holds)\n" ++
    codes "      (if (< x y) (setq holds nil))\n" ++
    codes "      (setq x y))))\n" ++
    codes "(defun max (x &rest l)\n" ++
    codes "  (declare (type integer x))\n" ++
    codes "  (dolist (y l x)\n" ++
    codes "    (if (< x y) (setq x y))))\n" ++
    codes "(defun min (x &rest l)\n" ++
    codes "  (declare (type integer x))\n" ++
    codes "  (dolist (y l x)\n" ++
    codes "    (if (> x y) (setq x y))))\n" ++
    codes "(defun zerop (x) (= x 0))\n" ++
    codes "(defun plusp (x) (> x 0))\n" ++
    codes "(defun minusp (x) (< x 0))\n" ++
    codes "(defun evenp (x) (= (logand x 1) 0))\n" ++
    codes "(defun oddp (x) (= (logand x 1) 1))\n" ++
    codes "\n" ++
    codes "; The bits of integers.\n" ++
    codes "\n" ++
    codes "(defun logand (&rest l)\n" ++
    codes "  (let ((bits -1))\n" ++
    codes "    (dolist (x l bits)\n" ++
    codes "      (setq bits (lognot (logior (lognot bits) (lognot x)))))))\n" ++
    codes "(defun logior (&rest l)\n" ++
    codes "  (let ((bits 0))\n" ++
    codes "    (dolist (x l bits)\n" ++
    codes "      (setq bits (lognot (logand (lognot bits) (lognot x)))))))\n" ++
    codes "(defun logxor (&rest l)\n" ++
    codes "  (let ((bits 0))\n" ++
    codes "    (dolist (x l bits)\n" ++
    codes "      (setq bits (logand (logior bits x) (lognot (logand bits x)))))))\n" ++
    codes "(defun lognot (x) (- -1 x))\n" ++
    codes "(defun ash (n places)\n" ++
    codes "  (declare (type integer n places))\n" ++
    codes "  (%ash n places))\n" ++
    codes "\n" ++
    codes "; Other functions of numbers. The square in EXPT is made only where a later factor needs it.\n" ++
    codes "\n" ++
    codes "(defun abs (x) (if (< x 0) (- x) x))\n" ++
    codes "(defun signum (x)\n" ++
    codes "  (cond ((< x 0) -1)\n" ++
    codes "        ((= x 0) 0)\n" ++
    codes "        (t 1)))\n" ++
    codes "(defun gcd (a b)\n" ++
    codes "  (declare (type integer a b))\n" ++
    codes "  (loop\n" ++
    codes "    (if (= b 0) (return (if (< a 0) (- a) a)))\n" ++
    codes "    (psetq a b\n" ++
    codes "           b (rem a b))))\n" ++
    codes "(defun expt (x n)\n" ++
    codes "  (declare (type integer x) (type unsigned-byte n))\n" ++
    codes "  (let ((power 1))\n" ++
    codes "    (loop\n" ++
    codes "      (if (= (logand n 1) 1) (setq power (* power x)))\n" ++
    codes "      (setq n (ash n -1))\n" ++
    codes "      (if (= n 0) (return power))\n" ++
    codes "      (setq x (* x x)))))\n"
