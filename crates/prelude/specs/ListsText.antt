-- The part of the prelude's text with functions of lists (ANSI Common Lisp; helpers with `%` are this project's own).
use Rattle.std.specs.Prelude.{ℕ, List, ◌++◌, codes}

unfoldable pub lists_text : List ℕ
lists_text =
    codes "\n" ++
    codes "; Parts of lists.\n" ++
    codes "\n" ++
    codes "(defun caar (x) (car (car x)))\n" ++
    codes "(defun cadr (x) (car (cdr x)))\n" ++
    codes "(defun cdar (x) (cdr (car x)))\n" ++
    codes "(defun cddr (x) (cdr (cdr x)))\n" ++
    codes "(defun caddr (x) (car (cdr (cdr x))))\n" ++
    codes "(defun cdddr (x) (cdr (cdr (cdr x))))\n" ++
    codes "(defun first (l) (car l))\n" ++
    codes "(defun second (l) (car (cdr l)))\n" ++
    codes "(defun third (l) (car (cdr (cdr l))))\n" ++
    codes "(defun rest (l) (cdr l))\n" ++
    codes "(defun endp (l)\n" ++
    codes "  (declare (type list l))\n" ++
    codes "  (null l))\n" ++
    codes "(defun last (l)\n" ++
    codes "  (declare (type list l))\n" ++
    codes "  (loop\n" ++
    codes "    (if (consp (cdr l))\n" ++
    codes "        (setq l (cdr l))\n" ++
    codes "        (return l))))\n" ++
    codes "(defun nthcdr (n l)\n" ++
    codes "  (declare (type unsigned-byte n) (type list l))\n" ++
    codes "  (let ((tail l))\n" ++
    codes "    (loop\n" ++
    codes "      (if (or (= n 0) (null tail)) (return tail))\n" ++
    codes "      (setq n (- n 1)\n" ++
    codes "            tail (cdr tail)))))\n" ++
    codes "(defun nth (n l)\n" ++
    codes "  (declare (type unsigned-byte n) (type list l))\n" ++
    codes "  (loop\n" ++
    codes "    (if (or (= n 0) (null l)) (return (car l)))\n" ++
    codes "    (setq n (- n 1)\n" ++
    codes "          l (cdr l))))\n" ++
    codes "(defun %nthset (n l v)\n" ++
    codes "  (declare (type unsigned-byte n) (type list l))\n" ++
    codes "  (rplaca (nthcdr n l) v)\n" ++
    codes "  v)\n" ++
    codes "\n" ++
    codes "; New lists. Most are built behind a first cons that is dropped at the end.\n" ++
    codes "\n" ++
    codes "(defun acons (key value l) (cons (cons key value) l))\n" ++
    codes "(defun list* (x &rest l)\n" ++
    codes "  (if (null l)\n" ++
    codes "      x\n" ++
    codes "      (let ((head (cons x l)))\n" ++
    codes "        (do ((tail head (cdr tail)))\n" ++
    codes "            ((null (cdr (cdr tail)))\n" ++
    codes "             (rplacd tail (car (cdr tail)))\n" ++
    codes "             head)))))\n" ++
    codes "(defun append (&rest lists)\n" ++
    codes "  (let* ((head (list nil)) (tail head))\n" ++
    codes "    (loop\n" ++
    codes "      (when (null (cdr lists))\n" ++
    codes "        (rplacd tail (car lists))\n" ++
    codes "        (return (cdr head)))\n" ++
    codes "      (dolist (x (pop lists))\n" ++
    codes "        (setq tail (cdr (rplacd tail (list x))))))))\n" ++
    codes "(defun nconc (&rest lists)\n" ++
    codes "  (let* ((head (list nil)) (tail head))\n" ++
    codes "    (loop\n" ++
    codes "      (when (null (cdr lists))\n" ++
    codes "        (rplacd tail (car lists))\n" ++
    codes "        (return (cdr head)))\n" ++
    codes "      (let ((l (the list (pop lists))))\n" ++
    codes "        (when l\n" ++
    codes "          (rplacd tail l)\n" ++
    codes "          (do () ((atom (cdr tail)))\n" ++
    codes "            (setq tail (cdr tail))))))))\n" ++
    codes "(defun copy-list (l)\n" ++
    codes "  (declare (type list l))\n" ++
    codes "  (let* ((head (list nil)) (tail head))\n" ++
    codes "    (do ((left l (cdr left)))\n" ++
    codes "        ((atom left)\n" ++
    codes "         (rplacd tail left)\n" ++
    codes "         (cdr head))\n" ++
    codes "      (setq tail (cdr (rplacd tail (list (car left))))))))\n" ++
    codes "(defun butlast (l)\n" ++
    codes "  (declare (type list l))\n" ++
    codes "  (let* ((head (list nil)) (tail head))\n" ++
    codes "    (do ((left l (cdr left)))\n" ++
    codes "        ((atom (cdr left)) (cdr head))\n" ++
    codes "      (setq tail (cdr (rplacd tail (list (car left))))))))\n" ++
    codes "\n" ++
    codes "; Searches in lists. A KEY of NIL takes the elements themselves.\n" ++
    codes "\n" ++
    codes "(defun member (item l &key (test #'eql) key)\n" ++
    codes "  (declare (type list l) (type (or function symbol) test key))\n" ++
    codes "  (do ((tail l (the list (cdr tail))))\n" ++
    codes "      ((null tail) nil)\n" ++
    codes "    (if (funcall test item (if key (funcall key (car tail)) (car tail)))\n" ++
    codes "        (return tail))))\n" ++
    codes "(defun assoc (item l &key (test #'eql) key)\n" ++
    codes "  (declare (type list l) (type (or function symbol) test key))\n" ++
    codes "  (dolist (pair l nil)\n" ++
    codes "    (if (and pair\n" ++
    codes "             (funcall test item (if key (funcall key (car pair)) (car pair))))\n" ++
    codes "        (return pair))))\n" ++
    codes "(defun find (item l &key (test #'eql) key)\n" ++
    codes "  (declare (type list l) (type (or function symbol) test key))\n" ++
    codes "  (dolist (x l nil)\n" ++
    codes "    (if (funcall test item (if key (funcall key x) x))\n" ++
    codes "        (return x))))\n" ++
    codes "(defun position (item l &key (test #'eql) key)\n" ++
    codes "  (declare (type list l) (type (or function symbol) test key))\n" ++
    codes "  (let ((i 0))\n" ++
    codes "    (dolist (x l nil)\n" ++
    codes "      (if (funcall test item (if key (funcall key x) x))\n" ++
    codes "          (return i))\n" ++
    codes "      (incf i))))\n" ++
    codes "(defun count (item l &key (test #'eql) key)\n" ++
    codes "  (declare (type list l) (type (or function symbol) test key))\n" ++
    codes "  (let ((n 0))\n" ++
    codes "    (dolist (x l n)\n" ++
    codes "      (if (funcall test item (if key (funcall key x) x))\n" ++
    codes "          (incf n)))))\n" ++
    codes "(defun remove (item l &key (test #'eql) key)\n" ++
    codes "  (declare (type list l) (type (or function symbol) test key))\n" ++
    codes "  (let* ((head (list nil)) (tail head))\n" ++
    codes "    (dolist (x l (cdr head))\n" ++
    codes "      (unless (funcall test item (if key (funcall key x) x))\n" ++
    codes "        (setq tail (cdr (rplacd tail (list x))))))))\n" ++
    codes "(defun find-if (f l)\n" ++
    codes "  (declare (type (or function symbol) f))\n" ++
    codes "  (dolist (x l nil)\n" ++
    codes "    (if (funcall f x) (return x))))\n" ++
    codes "(defun remove-if (f l)\n" ++
    codes "  (declare (type (or function symbol) f))\n" ++
    codes "  (let* ((head (list nil)) (tail head))\n" ++
    codes "    (dolist (x l (cdr head))\n" ++
    codes "      (unless (funcall f x)\n" ++
    codes "        (setq tail (cdr (rplacd tail (list x))))))))\n" ++
    codes "(defun remove-if-not (f l)\n" ++
    codes "  (declare (type (or function symbol) f))\n" ++
    codes "  (let* ((head (list nil)) (tail head))\n" ++
    codes "    (dolist (x l (cdr head))\n" ++
    codes "      (if (funcall f x)\n" ++
    codes "          (setq tail (cdr (rplacd tail (list x))))))))\n" ++
    codes "\n" ++
    codes "; A function on each element. Of several lists the first elements are taken together, until one\n" ++
    codes "; of the lists has no more.\n" ++
    codes "\n" ++
    codes "(defun mapcar (f l &rest more)\n" ++
    codes "  (declare (type (or function symbol) f) (type list l))\n" ++
    codes "  (let* ((head (list nil)) (tail head))\n" ++
    codes "    (if (null more)\n" ++
    codes "        (dolist (x l (cdr head))\n" ++
    codes "          (setq tail (cdr (rplacd tail (list (funcall f x))))))\n" ++
    codes "        (let ((lists (cons l more)))\n" ++
    codes "          (loop\n" ++
    codes "            (let* ((arguments (list nil)) (end arguments))\n" ++
    codes "              (do ((left lists (cdr left)))\n" ++
    codes "                  ((null left))\n" ++
    codes "                (if (null (car left)) (return-from mapcar (cdr head)))\n" ++
    codes "                (setq end (cdr (rplacd end (list (car (car left))))))\n" ++
    codes "                (rplaca left (cdr (car left))))\n" ++
    codes "              (setq tail (cdr (rplacd tail (list (apply f (cdr arguments))))))))))))\n" ++
    codes "(defun mapc (f l &rest more)\n" ++
    codes "  (declare (type (or function symbol) f) (type list l))\n" ++
    codes "  (if (null more)\n" ++
    codes "      (dolist (x l) (funcall f x))\n" ++
    codes "      (let ((lists (cons l more)))\n" ++
    codes "        (loop\n" ++
    codes "          (let* ((arguments (list nil)) (end arguments))\n" ++
    codes "            (do ((left lists (cdr left)))\n" ++
    codes "                ((null left))\n" ++
    codes "              (if (null (car left)) (return-from mapc l))\n" ++
    codes "              (setq end (cdr (rplacd end (list (car (car left))))))\n" ++
    codes "              (rplaca left (cdr (car left))))\n" ++
    codes "            (apply f (cdr arguments))))))\n" ++
    codes "  l)\n" ++
    codes "(defun reduce (f l &key (initial-value nil given))\n" ++
    codes "  (declare (type (or function symbol) f) (type list l))\n" ++
    codes "  (if (and (null l) (not given))\n" ++
    codes "      (funcall f)\n" ++
    codes "      (let ((value (if given initial-value (pop l))))\n" ++
    codes "        (dolist (x l value)\n" ++
    codes "          (setq value (funcall f value x))))))\n" ++
    codes "(defun every (f l)\n" ++
    codes "  (declare (type (or function symbol) f))\n" ++
    codes "  (dolist (x l t)\n" ++
    codes "    (unless (funcall f x) (return nil))))\n" ++
    codes "(defun some (f l)\n" ++
    codes "  (declare (type (or function symbol) f))\n" ++
    codes "  (dolist (x l nil)\n" ++
    codes "    (let ((value (funcall f x)))\n" ++
    codes "      (if value (return value)))))\n" ++
    codes "(defun equal (a b)\n" ++
    codes "  (loop\n" ++
    codes "    (cond ((eql a b) (return t))\n" ++
    codes "          ((and (consp a) (consp b))\n" ++
    codes "           (unless (equal (car a) (car b)) (return nil))\n" ++
    codes "           (setq a (cdr a)\n" ++
    codes "                 b (cdr b)))\n" ++
    codes "          (t (return (and (stringp a) (stringp b) (string= a b)))))))\n"
