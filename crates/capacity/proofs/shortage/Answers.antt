-- `capacity::shortage` meets its contract.
-- Assumes nothing.
use Rattle.std.proofs.Common.{sym, subst, ap, ◌∙◌, rules, arith}
use Rattle.rules.specs.declared.Hour.{Hour}
use Rattle.capacity.specs.Search.{InProfile}
use Rattle.capacity.proofs.Asked.{five_asked}
use Rattle.capacity.proofs.Search.{past_hours, direction_short, direction_fits, past_profiles, profile_lacks, profile_is_short, profile_fits, few, few_so_far}
use Rattle.capacity.proofs.shortage.Goals.{in-Some+else-is_short-2, in_default}
use Rattle.capacity.proofs.shortage.Goals as goal

pub overflow_add-compared : goal.overflow_add-compared
overflow_add-compared c = omega (arith, few_so_far _ _ _ _ _ c.hours.invariant.1.count_is (five_asked c.args.mw c.args.hours.count (search rules) c.args.hours.inside.few))

pub loop-profile-init : goal.loop-profile-init
loop-profile-init c = (search rules, c.hours.invariant.0, direction_fits _ _ _ _ c.hours.invariant.1 (rw (← c.to_last_asked-asked-items.ensures.searched) c.hours-test.true) (rw (← c.to_last_asked-asked-items.ensures.searched) (sym c.is_short.ensures ∙ c.if-is_short.false)))

pub overflow_add-compared-in-Some : goal.overflow_add-compared-in-Some
overflow_add-compared-in-Some c = omega (arith, few_so_far _ _ _ _ _ c.loop-profile.invariant.2.count_is (five_asked c.args.mw c.args.hours.count (search rules) c.args.hours.inside.few))

pub loop-profile-preserved : goal.loop-profile-preserved
loop-profile-preserved c = (
  search rules,
  c.loop-profile.invariant.1,
  elim c.match-in_profile.branch [
    | in-Some+else-is_short-2 w ↦
        let place = subst (InProfile c.args.book.now c.args.hours.direction _ c.loop-profile.profile) w.in-Some.is c.in_profile.ensures in
        rw w.compared-is (profile_fits _ _ _ _ c.loop-profile.invariant.2 (rw (← c.profile_count-profiles.ensures.count) c.loop-profile-test.true) place.0 (rw (← c.to_last_asked-asked-items.ensures.searched, ← place.1.0, ← ap (λ (h : Hour). h.0) place.1.1) (sym w.is_short-in-Some.ensures ∙ w.if-is_short-2.false)))
    | in_default w ↦ rw w.compared-is (profile_lacks _ _ _ _ c.loop-profile.invariant.2 (rw (← c.profile_count-profiles.ensures.count) c.loop-profile-test.true) (rw w.in_default.is at c.in_profile.ensures))
  ],
)

pub hours-preserved : goal.hours-preserved
hours-preserved c = (c.loop-profile.invariant.1, past_profiles _ _ _ _ c.loop-profile.invariant.2 (rw (← c.profile_count-profiles.ensures.count) c.loop-profile-test.false))

pub returns-after-hours : goal.returns-after-hours
returns-after-hours c =
    let ends = past_hours _ _ _ _ c.hours.invariant.1 (rw (← c.to_last_asked-asked-items.ensures.searched) c.hours-test.false) in
    record { found = rw c.hours.invariant.0 ends.found_is; count = ends.count_is; few = rw ends.count_is (few _ _ _ _ (five_asked c.args.mw c.args.hours.count (search rules) c.args.hours.inside.few)) }

pub returns-then-is_short : goal.returns-then-is_short
returns-then-is_short c =
    let ends = direction_short _ _ _ _ c.hours.invariant.1 (rw (← c.to_last_asked-asked-items.ensures.searched) c.hours-test.true) (rw (← c.to_last_asked-asked-items.ensures.searched) (sym c.is_short.ensures ∙ c.if-is_short.true)) in
    record { found = ends.found_is; count = ends.count_is; few = rw ends.count_is (few _ _ _ _ (five_asked c.args.mw c.args.hours.count (search rules) c.args.hours.inside.few)) }

pub returns-then-is_short-2 : goal.returns-then-is_short-2
returns-then-is_short-2 c =
    let place = subst (InProfile c.args.book.now c.args.hours.direction _ c.loop-profile.profile) c.in-Some.is c.in_profile.ensures in
    let ends = profile_is_short _ _ _ _ c.loop-profile.invariant.2 (rw (← c.profile_count-profiles.ensures.count) c.loop-profile-test.true) place.0 (rw (← c.to_last_asked-asked-items.ensures.searched, ← place.1.0, ← ap (λ (h : Hour). h.0) place.1.1) (sym c.is_short-in-Some.ensures ∙ c.if-is_short-2.true)) in
    record { found = ends.found_is; count = ends.count_is; few = rw ends.count_is (few _ _ _ _ (five_asked c.args.mw c.args.hours.count (search rules) c.args.hours.inside.few)) }
