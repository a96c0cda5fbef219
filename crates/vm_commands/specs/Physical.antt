-- What stands against reading or writing guest memory.
use Rattle.std.specs.Prelude.{ℕ, false, not}
use Rattle.kvmi.specs.Verdict.{in_one_page}
use Rattle.kvmi.specs.Feed.{page_exists}
use Rattle.causes.specs.declared.Causes.{Causes}

-- of messages 6 and 7: the page, and whether it is lent
abbrev pub physical_causes : ℕ → ℕ → ℕ → Causes
physical_causes guest gpa size =
    record {
      invalid = not (in_one_page gpa size);
      unready = false;
      denied = false;
      unsupported = false;
      busy = false;
      absent = not (page_exists guest gpa);
      closing = false;
    }
