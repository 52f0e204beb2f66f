-- The part of the prelude's text with functions of characters (ANSI Common Lisp; helpers with `%` are this project's own).
use Rattle.std.specs.Prelude.{ℕ, List, ◌++◌, codes}

unfoldable pub characters_text : List ℕ
characters_text =
    codes "\n" ++
    codes "; Characters. Case and letters are those of ASCII.\n" ++
    codes "\n" ++
    codes "(defun char-code (c)\n" ++
    codes "  (declare (type character c))\n" ++
    codes "  (%char-code c))\n" ++
    codes "(defun code-char (code)\n" ++
    codes "  (declare (type (integer 0 1114111) code))\n" ++
    codes "  (%code-char code))\n" ++
    codes "(defun char= (c &rest l)\n" ++
    codes "  (declare (type character c))\n" ++
    codes "  (let ((code (char-code c)) (same t))\n" ++
    codes "    (dolist (d l same)\n" ++
    codes "      (if (/= code (char-code d)) (setq same nil)))))\n" ++
    codes "(defun char< (c &rest l)\n" ++
    codes "  (declare (type character c))\n" ++
    codes "  (let ((code (char-code c)) (holds t))\n" ++
    codes "    (dolist (d l holds)\n" ++
    codes "      (let ((next (char-code d)))\n" ++
    codes "        (if (>= code next) (setq holds nil))\n" ++
    codes "        (setq code next)))))\n" ++
    codes "(defun char/= (c d) (not (char= c d)))\n" ++
    codes "(defun char> (c d)\n" ++
    codes "  (declare (type character c d))\n" ++
    codes "  (char< d c))\n" ++
    codes "(defun char<= (c d)\n" ++
    codes "  (declare (type character c d))\n" ++
    codes "  (not (char< d c)))\n" ++
    codes "(defun char>= (c d) (not (char< c d)))\n" ++
    codes "(defun upper-case-p (c)\n" ++
    codes "  (not (or (char< c #\\A) (char< #\\Z c))))\n" ++
    codes "(defun lower-case-p (c)\n" ++
    codes "  (not (or (char< c #\\a) (char< #\\z c))))\n" ++
    codes "(defun alpha-char-p (c)\n" ++
    codes "  (declare (type character c))\n" ++
    codes "  (or (upper-case-p c) (lower-case-p c)))\n" ++
    codes "(defun alphanumericp (c)\n" ++
    codes "  (declare (type character c))\n" ++
    codes "  (or (alpha-char-p c)\n" ++
    codes "      (not (or (char< c #\\0) (char< #\\9 c)))))\n" ++
    codes "(defun char-upcase (c)\n" ++
    codes "  (declare (type character c))\n" ++
    codes "  (if (lower-case-p c)\n" ++
    codes "      (code-char (- (char-code c) 32))\n" ++
    codes "      c))\n" ++
    codes "(defun char-downcase (c)\n" ++
    codes "  (declare (type character c))\n" ++
    codes "  (if (upper-case-p c)\n" ++
    codes "      (code-char (+ (char-code c) 32))\n" ++
    codes "      c))\n" ++
    codes "(defun digit-char-p (c &optional (radix 10))\n" ++
    codes "  (declare (type character c) (type (integer 2 36) radix))\n" ++
    codes "  (let* ((code (char-code (char-upcase c)))\n" ++
    codes "         (weight (cond ((< code 48) radix)\n" ++
    codes "                       ((<= code 57) (- code 48))\n" ++
    codes "                       ((< code 65) radix)\n" ++
    codes "                       (t (- code 55)))))\n" ++
    codes "    (if (< weight radix) weight nil)))\n" ++
    codes "(defun digit-char (weight &optional (radix 10))\n" ++
    codes "  (declare (type unsigned-byte weight) (type (integer 2 36) radix))\n" ++
    codes "  (if (< weight radix)\n" ++
    codes "      (schar \"0123456789ABCDEFGHIJKLMNOPQRSTUVWXYZ\" weight)\n" ++
    codes "      nil))\n"
