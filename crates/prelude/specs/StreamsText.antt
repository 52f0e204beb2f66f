-- The part of the prelude's text with input and output (ANSI Common Lisp; helpers with `%` are this project's own).
use Rattle.std.specs.Prelude.{ℕ, List, ◌++◌, codes}

unfoldable pub streams_text : List ℕ
streams_text =
    codes "\n" ++
    codes "; Input.\n" ++
    codes "\n" ++
    codes "(defun read-char (&optional stream (eof-error-p t) eof-value)\n" ++
    codes "  (declare (type (member nil t) stream))\n" ++
    codes "  (%read-char stream eof-error-p eof-value))\n" ++
    codes "(defun read-line (&optional stream (eof-error-p t) eof-value)\n" ++
    codes "  (declare (type (member nil t) stream))\n" ++
    codes "  (let ((c (read-char stream eof-error-p nil)) (l nil))\n" ++
    codes "    (if (null c)\n" ++
    codes "        (values eof-value t)\n" ++
    codes "        (loop\n" ++
    codes "          (if (or (null c) (char= c #\\Newline))\n" ++
    codes "              (return (values (coerce (nreverse l) 'string) (null c))))\n" ++
    codes "          (push c l)\n" ++
    codes "          (setq c (read-char stream nil nil))))))\n" ++
    codes "\n" ++
    codes "; Output.\n" ++
    codes "\n" ++
    codes "(defun write-char (c &optional stream)\n" ++
    codes "  (declare (type character c) (type (member nil t) stream))\n" ++
    codes "  (write-string (%make-string 1 c))\n" ++
    codes "  c)\n" ++
    codes "(defun write-string (s)\n" ++
    codes "  (declare (type string s))\n" ++
    codes "  (dotimes (i (%string-length s) s)\n" ++
    codes "    (write-char (schar s i))))\n" ++
    codes "(defun write-line (s)\n" ++
    codes "  (declare (type string s))\n" ++
    codes "  (write-string s)\n" ++
    codes "  (write-char #\\Newline)\n" ++
    codes "  s)\n" ++
    codes "(defun terpri ()\n" ++
    codes "  (write-char #\\Newline)\n" ++
    codes "  nil)\n" ++
    codes "(defun prin1 (x)\n" ++
    codes "  (%write x t)\n" ++
    codes "  x)\n" ++
    codes "(defun princ (x)\n" ++
    codes "  (%write x nil)\n" ++
    codes "  x)\n" ++
    codes "(defun print (x)\n" ++
    codes "  (write-char #\\Newline)\n" ++
    codes "  (%write x t)\n" ++
    codes "  (write-char #\\Space)\n" ++
    codes "  x)\n" ++
    codes "\n" ++
    codes "; Digits are written from a number that isn't positive, since the least has no opposite.\n" ++
    codes "\n" ++
    codes "(defun %write (x escape)\n" ++
    codes "  (labels ((write-digits (n)\n" ++
    codes "             (multiple-value-bind (q r) (truncate n 10)\n" ++
    codes "               (if (< q 0) (write-digits q))\n" ++
    codes "               (write-char (schar \"0123456789\" (- r)))))\n" ++
    codes "           (write-character (c)\n" ++
    codes "             (write-string \"#\\\\\")\n" ++
    codes "             (case c\n" ++
    codes "               (#\\Space (write-string \"Space\"))\n" ++
    codes "               (#\\Newline (write-string \"Newline\"))\n" ++
    codes "               (#\\Tab (write-string \"Tab\"))\n" ++
    codes "               (#\\Page (write-string \"Page\"))\n" ++
    codes "               (#\\Return (write-string \"Return\"))\n" ++
    codes "               (#\\Backspace (write-string \"Backspace\"))\n" ++
    codes "               (#\\Rubout (write-string \"Rubout\"))\n" ++
    codes "               (#\\Null (write-string \"Null\"))\n" ++
    codes "               (t (write-char c))))\n" ++
    codes "           (write-quoted (s)\n" ++
    codes "             (write-char #\\\")\n" ++
    codes "             (dotimes (i (%string-length s))\n" ++
    codes "               (if (typep (schar s i) '(member #\\\" #\\\\))\n" ++
    codes "                   (write-char #\\\\))\n" ++
    codes "               (write-char (schar s i)))\n" ++
    codes "             (write-char #\\\"))\n" ++
    codes "           (write-list (l)\n" ++
    codes "             (write-char #\\()\n" ++
    codes "             (%write (pop l) escape)\n" ++
    codes "             (do () ((atom l))\n" ++
    codes "               (write-char #\\Space)\n" ++
    codes "               (%write (pop l) escape))\n" ++
    codes "             (when l\n" ++
    codes "               (write-string \" . \")\n" ++
    codes "               (%write l escape))\n" ++
    codes "             (write-char #\\)))\n" ++
    codes "           (write-vector (v)\n" ++
    codes "             (write-string \"#(\")\n" ++
    codes "             (dotimes (i (%vector-length v))\n" ++
    codes "               (if (> i 0) (write-char #\\Space))\n" ++
    codes "               (%write (svref v i) escape))\n" ++
    codes "             (write-char #\\))))\n" ++
    codes "    (cond ((integerp x)\n" ++
    codes "           (if (< x 0) (write-char #\\-))\n" ++
    codes "           (write-digits (if (< x 0) x (- x))))\n" ++
    codes "          ((characterp x) (if escape (write-character x) (write-char x)))\n" ++
    codes "          ((stringp x) (if escape (write-quoted x) (write-string x)))\n" ++
    codes "          ((consp x) (write-list x))\n" ++
    codes "          ((simple-vector-p x) (write-vector x))\n" ++
    codes "          ((symbolp x)\n" ++
    codes "           (if escape\n" ++
    codes "               (cond ((keywordp x) (write-char #\\:))\n" ++
    codes "                     ((%uninternedp x) (write-string \"#:\"))))\n" ++
    codes "           (write-string (symbol-name x)))\n" ++
    codes "          (t (write-string \"#<FUNCTION>\")))))\n"
