-- How a port stands for the bytes that it used.
use Rattle.std.specs.Prelude.{ℕ, ◌≡◌, List, ◌++◌, None}
use Rattle.velocity_map.specs.declared.curve.Curve.{Curve}
use Rattle.velocity_map.specs.Map.{curve_of}
use Rattle.command_set.specs.Message.{MessageOutcome}
use Rattle.command_queue.specs.Ends.{SendView}
use Rattle.port.specs.declared.port.Port.{Port}
use Rattle.port.specs.declared.fed.Fed.{Fed}
use Rattle.port.specs.declared.fed.PortStop.{PortStop}
use Rattle.port.specs.Feeding.{Handles}
use Rattle.port.specs.Keeping.{HasUsed, KeepsAt}

-- the curve of a port's map
abbrev pub port_curve : {g : _} {f : _} {m : _} → Port g f m → Curve
port_curve port = curve_of port.map

-- the port has used the bytes of the stream, and what comes of their messages was done, but for what is kept
abbrev pub Used : {g : _} {f : _} {m : _} → Port g f m → List MessageOutcome → List ℕ → Type 0
Used port done stream = HasUsed port.reader (port_curve port) port.kept done stream

-- nothing is kept
abbrev pub IsClear : {g : _} {f : _} {m : _} → Port g f m → Type 0
IsClear port = port.kept ≡ None

-- what is kept fits why the feed stopped
abbrev pub KeepsAs : {g : _} {f : _} {m : _} → Port g f m → PortStop → Type 0
KeepsAs port stop = KeepsAt stop port.kept

-- the port has used the bytes of the stream, and more was done of what comes of their messages
abbrev pub Receives : {g : _} {f : _} {m : _} → Port g f m → List MessageOutcome → List ℕ → SendView → SendView → Fed → Type 0
Receives port done stream old new fed = (now : List MessageOutcome) × (Used port (done ++ now) stream × Handles now old new fed)
