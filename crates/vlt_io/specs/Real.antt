-- The counts of failures of the real files and of a real writer, and the bytes that a real writer took.
use Rattle.std.specs.Prelude.{ℕ, List}
use Rattle.vlt_io.specs.declared.dir_store.DirStore.{DirStore}
use Rattle.vlt_io.specs.declared.out_sink.OutSink.{OutSink}
use Rattle.vlt_io.specs.Faults.{count_of}

abbrev pub files_faults : {R F D : Type 0} → DirStore R F D → ℕ
files_faults store = count_of store.faults

-- the writer below
abbrev pub writer_of : {W : Type 0} → OutSink W → W
writer_of sink = sink.writer

-- the pieces of all writes that came back, one after another
abbrev pub handed_to : {W : Type 0} → OutSink W → List ℕ
handed_to sink = sink.handed.bytes

abbrev pub writer_faults : {W : Type 0} → OutSink W → ℕ
writer_faults sink = count_of sink.faults
