-- The version of the library. These are definitions.
use Rattle.std.specs.Prelude.{ℕ, ◌+◌, ◌*◌}

-- a version in one number
abbrev pub version_of : ℕ → ℕ → ℕ → ℕ
version_of major minor patch = major * 65536 + minor * 256 + patch

-- the version of this library
abbrev pub version : ℕ
version = version_of 0 4 0
