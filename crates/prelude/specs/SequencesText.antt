-- The part of the prelude's text with functions of sequences, vectors and strings (ANSI Common Lisp; helpers with `%` are this project's own).
use Rattle.std.specs.Prelude.{ℕ, List, ◌++◌, codes}

unfoldable pub sequences_text : List ℕ
sequences_text =
    codes "\n" ++
    codes "; Sequences. A bound or index outside one is signalled as that of a vector of its length.\n" ++
    codes "\n" ++
    codes "(defun length (s)\n" ++
    codes "  (declare (type sequence s))\n" ++
    codes "  (cond ((simple-vector-p s) (%vector-length s))\n" ++
    codes "        ((stringp s) (%string-length s))\n" ++
    codes "        (t (let ((n 0))\n" ++
    codes "             (dolist (x s n)\n" ++
    codes "               (incf n))))))\n" ++
    codes "(defun elt (s i)\n" ++
    codes "  (declare (type sequence s))\n" ++
    codes "  (cond ((simple-vector-p s) (svref s i))\n" ++
    codes "        ((stringp s) (schar s i))\n" ++
    codes "        (t (when (typep i 'unsigned-byte)\n" ++
    codes "             (do ((left s (cdr left)) (n i (- n 1)))\n" ++
    codes "                 ((null left))\n" ++
    codes "               (if (= n 0) (return-from elt (car left)))))\n" ++
    codes "           (svref (%make-vector (length s) 0) i))))\n" ++
    codes "(defun subseq (s start &optional end)\n" ++
    codes "  (declare (type sequence s) (type unsigned-byte start)\n" ++
    codes "           (type (or null unsigned-byte) end))\n" ++
    codes "  (let* ((n (length s)) (limit (or end n)))\n" ++
    codes "    (if (> limit n) (svref (%make-vector (+ n 1) 0) limit))\n" ++
    codes "    (if (> start limit) (svref (%make-vector (+ limit 1) 0) start))\n" ++
    codes "    (if (listp s)\n" ++
    codes "        (let* ((head (list nil)) (tail head) (left (nthcdr start s)))\n" ++
    codes "          (dotimes (i (- limit start) (cdr head))\n" ++
    codes "            (setq tail (cdr (rplacd tail (list (pop left)))))))\n" ++
    codes "        (let ((part (if (stringp s)\n" ++
    codes "                        (%make-string (- limit start) #\\Space)\n" ++
    codes "                        (%make-vector (- limit start) 0))))\n" ++
    codes "          (dotimes (i (- limit start) part)\n" ++
    codes "            (%aset part i (aref s (+ start i))))))))\n" ++
    codes "(defun copy-seq (s)\n" ++
    codes "  (declare (type sequence s))\n" ++
    codes "  (subseq s 0))\n" ++
    codes "(defun reverse (s)\n" ++
    codes "  (declare (type sequence s))\n" ++
    codes "  (if (listp s)\n" ++
    codes "      (let ((reversed nil))\n" ++
    codes "        (dolist (x s reversed)\n" ++
    codes "          (push x reversed)))\n" ++
    codes "      (nreverse (copy-seq s))))\n" ++
    codes "(defun nreverse (s)\n" ++
    codes "  (declare (type sequence s))\n" ++
    codes "  (if (listp s)\n" ++
    codes "      (let ((reversed nil) (left s))\n" ++
    codes "        (loop\n" ++
    codes "          (if (null left) (return reversed))\n" ++
    codes "          (let ((next (the list (cdr left))))\n" ++
    codes "            (rplacd left reversed)\n" ++
    codes "            (setq reversed left\n" ++
    codes "                  left next))))\n" ++
    codes "      (do ((i 0 (+ i 1)) (j (- (length s) 1) (- j 1)))\n" ++
    codes "          ((>= i j) s)\n" ++
    codes "        (let ((x (aref s i)))\n" ++
    codes "          (%aset s i (aref s j))\n" ++
    codes "          (%aset s j x)))))\n" ++
    codes "(defun coerce (x type)\n" ++
    codes "  (declare (type sequence x)\n" ++
    codes "           (type (member list string vector simple-vector) type))\n" ++
    codes "  (cond ((case type\n" ++
    codes "           (list (listp x))\n" ++
    codes "           (string (stringp x))\n" ++
    codes "           (vector (vectorp x))\n" ++
    codes "           (t (simple-vector-p x)))\n" ++
    codes "         x)\n" ++
    codes "        ((typep type '(member list))\n" ++
    codes "         (let ((l nil))\n" ++
    codes "           (do ((i (- (length x) 1) (- i 1)))\n" ++
    codes "               ((< i 0) l)\n" ++
    codes "             (push (aref x i) l))))\n" ++
    codes "        (t (let ((result (if (typep type '(member string))\n" ++
    codes "                             (%make-string (length x) #\\Space)\n" ++
    codes "                             (%make-vector (length x) 0)))\n" ++
    codes "                 (i 0))\n" ++
    codes "             (dolist (item (coerce x 'list) result)\n" ++
    codes "               (if (stringp result)\n" ++
    codes "                   (%scharset result i item)\n" ++
    codes "                   (%svset result i item))\n" ++
    codes "               (incf i))))))\n" ++
    codes "\n" ++
    codes "; Vectors.\n" ++
    codes "\n" ++
    codes "(defun make-array (n &key (initial-element 0)) (%make-vector n initial-element))\n" ++
    codes "(defun vector (&rest l) (coerce l 'simple-vector))\n" ++
    codes "(defun aref (a i)\n" ++
    codes "  (declare (type array a))\n" ++
    codes "  (if (stringp a)\n" ++
    codes "      (schar a i)\n" ++
    codes "      (svref a i)))\n" ++
    codes "(defun %aset (a i v)\n" ++
    codes "  (declare (type array a))\n" ++
    codes "  (if (stringp a)\n" ++
    codes "      (%scharset a i v)\n" ++
    codes "      (%svset a i v)))\n" ++
    codes "(defun svref (v i)\n" ++
    codes "  (declare (type simple-vector v))\n" ++
    codes "  (aref v i))\n" ++
    codes "\n" ++
    codes "; Strings.\n" ++
    codes "\n" ++
    codes "(defun make-string (n &key (initial-element #\\Space)) (%make-string n initial-element))\n" ++
    codes "(defun char (s i) (schar s i))\n" ++
    codes "(defun schar (s i)\n" ++
    codes "  (declare (type simple-string s))\n" ++
    codes "  (char s i))\n" ++
    codes "(defun string (x)\n" ++
    codes "  (declare (type (or string symbol character) x))\n" ++
    codes "  (cond ((stringp x) x)\n" ++
    codes "        ((symbolp x) (symbol-name x))\n" ++
    codes "        (t (%make-string 1 x))))\n" ++
    codes "(defun string= (x y)\n" ++
    codes "  (declare (type (or string symbol character) x y))\n" ++
    codes "  (let* ((a (string x)) (b (string y)) (n (%string-length a)))\n" ++
    codes "    (if (= n (%string-length b))\n" ++
    codes "        (dotimes (i n t)\n" ++
    codes "          (unless (char= (schar a i) (schar b i)) (return nil)))\n" ++
    codes "        nil)))\n" ++
    codes "(defun string< (x y)\n" ++
    codes "  (declare (type (or string symbol character) x y))\n" ++
    codes "  (let* ((a (string x)) (b (string y))\n" ++
    codes "         (m (%string-length a)) (n (%string-length b)))\n" ++
    codes "    (dotimes (i n nil)\n" ++
    codes "      (cond ((= i m) (return i))\n" ++
    codes "            ((char< (schar a i) (schar b i)) (return i))\n" ++
    codes "            ((char< (schar b i) (schar a i)) (return nil))))))\n" ++
    codes "(defun string-upcase (x)\n" ++
    codes "  (declare (type (or string symbol character) x))\n" ++
    codes "  (let* ((s (string x)) (n (%string-length s)) (result (%make-string n #\\Space)))\n" ++
    codes "    (dotimes (i n result)\n" ++
    codes "      (%scharset result i (char-upcase (schar s i))))))\n" ++
    codes "(defun string-downcase (x)\n" ++
    codes "  (declare (type (or string symbol character) x))\n" ++
    codes "  (let* ((s (string x)) (n (%string-length s)) (result (%make-string n #\\Space)))\n" ++
    codes "    (dotimes (i n result)\n" ++
    codes "      (%scharset result i (char-downcase (schar s i))))))\n" ++
    codes "(defun parse-integer (s)\n" ++
    codes "  (declare (type string s))\n" ++
    codes "  (let ((n (%string-length s)) (i 0) (negative nil) (value nil))\n" ++
    codes "    (labels ((skip-whitespace ()\n" ++
    codes "               (loop\n" ++
    codes "                 (if (and (< i n)\n" ++
    codes "                          (typep (schar s i)\n" ++
    codes "                                 '(member #\\Tab #\\Newline #\\Page #\\Return #\\Space #\\Rubout)))\n" ++
    codes "                     (incf i)\n" ++
    codes "                     (return nil)))))\n" ++
    codes "      (skip-whitespace)\n" ++
    codes "      (when (and (< i n) (typep (schar s i) '(member #\\+ #\\-)))\n" ++
    codes "        (setq negative (char= (schar s i) #\\-))\n" ++
    codes "        (incf i))\n" ++
    codes "      (loop\n" ++
    codes "        (let ((digit (if (< i n) (digit-char-p (schar s i)) nil)))\n" ++
    codes "          (if (null digit) (return nil))\n" ++
    codes "          (setq value (* (or value 0) 10))\n" ++
    codes "          (setq value (if negative (- value digit) (+ value digit)))\n" ++
    codes "          (incf i)))\n" ++
    codes "      (skip-whitespace)\n" ++
    codes "      (if (and value (= i n))\n" ++
    codes "          (values value n)\n" ++
    codes "          (error \"no integer in the string\" s)))))\n"
