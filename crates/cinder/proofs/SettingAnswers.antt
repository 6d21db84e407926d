-- What the call answers to two legal lists, and the depth of a refusal.
use Prim.Native.Nat.{ℕ}
use mathlib.Core.Path.{◌≡◌, refl}
use mathlib.Core.List.{List}
use Rattle.list.specs.Limits.{list_limit}
use Rattle.list.specs.Tree.{Elements}
use Rattle.list.specs.Bytes.{list_bytes}
use Rattle.list.specs.Legal.{Legal}
use Rattle.list.specs.Open.{depth_at}
use Rattle.setting.specs.Lookup.{Finding, found, refused, missing, lookup, numbers_of, area_of}
use Rattle.setting.specs.Meaning.{meaning, Right}
use Rattle.setting.proofs.Meaning.{lists-answered, refused-depth}
use Rattle.cinder.specs.declared.setting_call.SettingResult.{SettingResult}
use Rattle.cinder.specs.SettingCall.{setting_result, setting_call}

-- the depth of an answer, by what was found
abbrev pub DepthOf : List ℕ → List ℕ → Finding → SettingResult → Type 0
DepthOf g h (found o offset size) a = a.depth ≡ 0
DepthOf g h (refused o r) a = a.depth ≡ depth_at (area_of o g h) a.error a.offset
DepthOf g h missing a = a.depth ≡ 0

-- LAW: two legal lists are answered by the numbers of what their trees say of the key
pub setting-complete : (key : List ℕ) (es fs : Elements) → Legal list_limit es → Legal list_limit fs
    → (f : Finding) × Right (meaning key es) (meaning key fs) (list_bytes es) (list_bytes fs) f × (setting_call (list_bytes es) (list_bytes fs) key ≡ setting_result (numbers_of f))
unfolding setting_call
setting-complete key es fs l m = (lookup (list_bytes es) (list_bytes fs) key, lists-answered key es fs l m, refl)

-- LAW: a refusal of a list has the depth of the lists open at its fault in that list; 33 and a value have 0
pub setting-depth : (g h key : List ℕ) (f : Finding) → lookup g h key ≡ f → DepthOf g h f (setting_call g h key)
unfolding setting_call
setting-depth g h key (found o offset size) e = rw e refl
setting-depth g h key (refused o r) e = rw e (refused-depth g h key o r e)
setting-depth g h key missing e = rw e refl
