-- Looking up a setting as firmware calls it, with numbers and byte areas.
use Rattle.std.specs.Prelude.{List, ℕ}
use Rattle.setting.specs.Lookup.{Numbers, lookup, numbers_of}
use Rattle.cinder.specs.declared.setting_call.SettingResult.{SettingResult}

-- the numbers of an answer
abbrev pub setting_result : Numbers → SettingResult
setting_result n = record { error = n.error; list = n.list; offset = n.offset; length = n.length; depth = n.depth }

-- no area is written
unfoldable pub setting_call : List ℕ → List ℕ → List ℕ → SettingResult
setting_call g h key = setting_result (numbers_of (lookup g h key))
