-- `list_check::check_front` meets its contract.
use mathlib.Core.Path.{◌≡◌, sym, ap, ◌∙◌}
use mathlib.Core.Bool.{true}
use native.Mathlib.Omega.{arith}
use Rattle.list.specs.declared.Kind.TheVariants.{Int, Blob}
use Rattle.list.specs.Parse.{is_list_code}
use Rattle.list.proofs.Codes.{mixed-is-code, typed-is-code}
use Rattle.list_check.proofs.Told.{told-end}
use Rattle.list_check.proofs.Front.{front-list, front-other, front-empty, front-typed, front-ints}
use Rattle.list_check.proofs.check_front.Goals.{Joined-code, in-268+then-count-gt0+else-count-lt-NEGATIVE, in-268+else-count-gt0}
use Rattle.list_check.proofs.check_front.Goals.{in-257+then-count-gt0-2+else-end-s, in-257+else-count-gt0-2, in-256+else-count-eq0, in_default+else-not-is_list_code}
use Rattle.list_check.proofs.check_front.Goals as goal

-- where the arms meet there is a list's code
is-list : (c : Joined-code) → is_list_code c.u32_at-code.result ≡ true
is-list c =
    elim c.match-code.branch [
      | in-268+then-count-gt0+else-count-lt-NEGATIVE w ↦ ap is_list_code w.in-268.is ∙ typed-is-code Blob
      | in-268+else-count-gt0 w ↦ ap is_list_code w.in-268.is ∙ typed-is-code Blob
      | in-257+then-count-gt0-2+else-end-s w ↦ ap is_list_code w.in-257.is ∙ typed-is-code Int
      | in-257+else-count-gt0-2 w ↦ ap is_list_code w.in-257.is ∙ typed-is-code Int
      | in-256+else-count-eq0 w ↦ ap is_list_code w.in-256.is ∙ mixed-is-code
      | in_default+else-not-is_list_code w ↦ sym w.is_list_code.ensures ∙ w.if-not-is_list_code.false
    ]

-- blobs
pub returns-then-count-lt-NEGATIVE : goal.returns-then-count-lt-NEGATIVE
returns-then-count-lt-NEGATIVE c =
    c.check_each.ensures
    ∙ sym (front-typed _ c.requires c.if-s.false _ _ c.u32_at-code.ensures c.u32_at-count.ensures Blob
    c.in-268.is c.if-count-gt0.true c.if-count-lt-NEGATIVE.true)

-- ints that are all there
pub returns-then-end-s : goal.returns-then-end-s
returns-then-end-s c =
    told-end _ (omega (arith, c.if-end-s.true))
    ∙ sym (front-ints _ c.requires c.if-s.false _ _ c.u32_at-code.ensures c.u32_at-count.ensures
    c.in-257.is c.if-count-gt0-2.true c.if-end-s.true)

-- the empty list
pub returns-then-count-eq0 : goal.returns-then-count-eq0
returns-then-count-eq0 c =
    told-end _ (omega arith)
    ∙ sym (front-empty _ c.requires c.if-s.false _ _ c.u32_at-code.ensures c.u32_at-count.ensures
    c.in-256.is c.if-count-eq0.true)

-- no list
pub returns-then-not-is_list_code : goal.returns-then-not-is_list_code
returns-then-not-is_list_code c =
    let other = sym c.is_list_code.ensures ∙ c.if-not-is_list_code.true in
    c.refuse.ensures ∙ sym (front-other _ c.requires c.if-s.false _ _ c.u32_at-code.ensures c.u32_at-count.ensures other)

pub check_list-requires : goal.check_list-requires
check_list-requires c =
    (c.if-s.false, c.requires, is-list c, c.u32_at-count.ensures, omega arith)

-- any other list
pub returns : goal.returns
returns c =
    c.check_list.ensures
    ∙ sym (front-list _ c.requires c.if-s.false _ _ c.u32_at-code.ensures c.u32_at-count.ensures (is-list (goal.at.returns c).Joined-code))
