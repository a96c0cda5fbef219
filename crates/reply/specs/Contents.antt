-- The data of a reply, by what it is.
use Rattle.std.specs.Prelude.{ℕ, ◌+◌, ◌≤◌, ◌≡◌, List, [], cond, ℤ, length, take, drop}
use Rattle.kvmi.specs.declared.Settings.{Settings}
use Rattle.kvmi.specs.Codes.{is_error}
use Rattle.kvmi.specs.Message.{gpa_of, size_of}
use Rattle.kvmi.specs.Reply.{reply_data}
use Rattle.reply.specs.declared.Contents.{Contents}
use Rattle.reply.specs.declared.Contents.TheVariants.{Nothing, Version, VmInfo, VcpuInfo, Memory}

unfoldable pub contents_bytes : Settings → List ℕ → Contents → List ℕ
contents_bytes s guest Nothing = []
contents_bytes s guest Version = reply_data s [] 1 []
contents_bytes s guest VmInfo = reply_data s [] 4 []
contents_bytes s guest VcpuInfo = reply_data s [] 8 []
contents_bytes s guest (Memory from count) = take count (drop from guest)

unfoldable pub contents_count : Contents → ℕ
contents_count Nothing = 0
contents_count Version = 16
contents_count VmInfo = 16
contents_count VcpuInfo = 8
contents_count (Memory from count) = count

-- where the guest memory ends that is read
unfoldable pub contents_end : Contents → ℕ
contents_end Nothing = 0
contents_end Version = 0
contents_end VmInfo = 0
contents_end VcpuInfo = 0
contents_end (Memory from count) = from + count

-- it is what VM_READ_PHYSICAL with the data d asks for
pub record Picked (guest d : List ℕ) (r : Contents) : Type 0 where
  pub bytes : (s : Settings) → contents_bytes s guest r ≡ take (size_of d) (drop (gpa_of d) guest)
  pub inside : contents_end r ≤ length guest

-- it is what the reply to a command holds
pub record Chosen (guest : List ℕ) (id : ℕ) (code : ℤ) (d : List ℕ) (r : Contents) : Type 0 where
  pub bytes : (s : Settings) → contents_bytes s guest r ≡ cond (is_error code) [] (reply_data s guest id d)
  pub inside : contents_end r ≤ length guest
