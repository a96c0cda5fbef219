-- Error codes: "Error numbers are Linux's.", but for ENOSYS, which document 01 gives as -1000.
use Rattle.std.specs.Prelude.{ℤ, pos, negsuc, Bool, true, false}

-- no error
abbrev pub OK : ℤ
OK = pos 0

-- -1
abbrev pub EPERM : ℤ
EPERM = negsuc 0

-- -2
abbrev pub ENOENT : ℤ
ENOENT = negsuc 1

-- -11
abbrev pub EAGAIN : ℤ
EAGAIN = negsuc 10

-- -12
abbrev pub ENOMEM : ℤ
ENOMEM = negsuc 11

-- -16
abbrev pub EBUSY : ℤ
EBUSY = negsuc 15

-- -22
abbrev pub EINVAL : ℤ
EINVAL = negsuc 21

-- -95
abbrev pub EOPNOTSUPP : ℤ
EOPNOTSUPP = negsuc 94

-- -1000
abbrev pub ENOSYS : ℤ
ENOSYS = negsuc 999

-- "a signed 32-bit number, zero or below": below zero it is an error
abbrev pub is_error : ℤ → Bool
is_error (pos n) = false
is_error (negsuc n) = true
