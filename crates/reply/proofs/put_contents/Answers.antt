-- Each kind of data by itself. Assumes nothing.
use mathlib.Core.Path.{◌≡◌, sym, ap, ◌∙◌}
use Prim.Native.Nat.{ℕ, ◌+◌, ◌-◌}
use native.Mathlib.Omega.{arith}
use Rattle.wire.proofs.Laws.{store-none}
use Rattle.kvmi.specs.Reply.{reply_data}
use Rattle.reply.specs.Contents.{contents_bytes, contents_count, contents_end}
use Rattle.reply.proofs.put_contents.Goals as goal

-- a part is lent by where it starts and ends
part_count : (from count : ℕ) → from + count - from ≡ count
part_count from count = omega arith

pub put_version-requires : goal.put_version-requires
unfolding contents_count
put_version-requires c = omega (arith, ap contents_count c.in-Version.is, c.requires.contents_in_bounds_2)

pub put_vm_info-requires : goal.put_vm_info-requires
unfolding contents_count
put_vm_info-requires c = omega (arith, ap contents_count c.in-VmInfo.is, c.requires.contents_in_bounds_2)

pub overflow_add-from : goal.overflow_add-from
unfolding contents_end
overflow_add-from c = omega (arith, ap contents_end c.in-Memory.is, c.requires.contents_in_bounds)

pub returns-in-Nothing : goal.returns-in-Nothing
unfolding contents_bytes
returns-in-Nothing c = rw c.in-Nothing.is (sym (store-none _ _))

pub returns-in-Version : goal.returns-in-Version
unfolding contents_bytes
returns-in-Version c = c.put_version.ensures ∙ rw c.in-Version.is

pub returns-in-VmInfo : goal.returns-in-VmInfo
unfolding contents_bytes
returns-in-VmInfo c = c.put_vm_info.ensures ∙ rw c.in-VmInfo.is

pub returns-in-VcpuInfo : goal.returns-in-VcpuInfo
unfolding contents_bytes reply_data
returns-in-VcpuInfo c = c.store.ensures ∙ rw c.in-VcpuInfo.is

pub returns-in-Memory : goal.returns-in-Memory
unfolding contents_bytes
returns-in-Memory c = c.copy.ensures ∙ rw (c.in-Memory.is, part_count)

pub slice_bounds-copy-end : goal.slice_bounds-copy-end
unfolding contents_end
slice_bounds-copy-end c = omega (arith, ap contents_end c.in-Memory.is, c.requires.contents_in_bounds)
