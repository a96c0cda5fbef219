-- Each kind of data by itself. Assumes nothing.
use Rattle.reply.specs.Contents.{contents_count}
use Rattle.reply.proofs.count_of.Goals as goal

pub returns-in-Nothing : goal.returns-in-Nothing
unfolding contents_count
returns-in-Nothing c = rw c.in-Nothing.is

pub returns-in-Version : goal.returns-in-Version
unfolding contents_count
returns-in-Version c = rw c.in-Version.is

pub returns-in-VmInfo : goal.returns-in-VmInfo
unfolding contents_count
returns-in-VmInfo c = rw c.in-VmInfo.is

pub returns-in-VcpuInfo : goal.returns-in-VcpuInfo
unfolding contents_count
returns-in-VcpuInfo c = rw c.in-VcpuInfo.is

pub returns-in-Memory : goal.returns-in-Memory
unfolding contents_count
returns-in-Memory c = rw c.in-Memory.is
