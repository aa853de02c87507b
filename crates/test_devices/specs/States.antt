-- What a run knows of the devices, by what contracts see of them.
use Rattle.std.specs.Prelude.{Some}
use Rattle.text_output.specs.Device.{ReaderState, WriterState}
use Rattle.test_devices.specs.Views.{ReaderView, WriterView}

-- the state of a reader over bytes
abbrev pub told_reader : ReaderView → ReaderState
told_reader reader =
    record { remaining = Some reader.remaining; has_failed = reader.has_failed; given = reader.given }

-- the state of a writer that keeps what it took
abbrev pub told_writer : WriterView → WriterState
told_writer writer =
    record { contents = Some writer.taken; has_failed = writer.has_failed; flushes = writer.flushes }
