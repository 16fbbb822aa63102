-- A reply in words.
-- Assumes nothing.
use Rattle.std.specs.Prelude.{ℕ, Bool, ◌-◌, ◌==◌, if◌then◌else◌, List, [], ◌∷◌, ◌++◌, Ok, Err}
use Rattle.std.specs.Fmt.{decimal}
use Rattle.std.specs.List.{filter}
use lib.Chars.{codes}
use Rattle.rules.specs.Basics.{bit}
use Rattle.rules.specs.declared.CapacityOf.{CapacityOf}
use Rattle.rules.specs.declared.CapacityOf.TheVariants.{Direction as OfDirection, Profile as OfProfile}
use Rattle.rules.specs.declared.Refusal.{Refusal}
use Rattle.rules.specs.declared.Refusal.TheVariants.{Record, Date, Field, SetupShut, Clock, Unknown, Taken, TooEarly, TooLate, Hours, Access, Owner, Cycle, Full, Short}
use Rattle.day.specs.declared.Day.{Day}
use Rattle.answers.specs.declared.LeftRead.{LeftRead}
use Rattle.answers.specs.declared.RightRead.{RightRead}
use Rattle.rehearse_text.specs.Rows.{row_text}
use Rattle.rehearse_lines.specs.declared.kinds.CallKind.{CallKind}
use Rattle.rehearse_lines.specs.declared.kinds.CallKind.TheVariants.{Direction, Profile, Party, Offer, Bid, Nominate, Match}
use Rattle.rehearse_reads.specs.declared.Reply.{Reply}
use Rattle.rehearse_reads.specs.declared.Reply.TheVariants.{Opening, Call, Left, Right, Confirmed}

-- Monday 1 to Sunday 7, and nothing for another number
abbrev pub weekday_text : ℕ → List ℕ
weekday_text n =
    if n == 1 then codes "Monday" else
    if n == 2 then codes "Tuesday" else
    if n == 3 then codes "Wednesday" else
    if n == 4 then codes "Thursday" else
    if n == 5 then codes "Friday" else
    if n == 6 then codes "Saturday" else
    if n == 7 then codes "Sunday" else []

-- an opening: the weekday and the count of hours
abbrev pub opened_text : Day → List ℕ
opened_text day = codes "granted: " ++ (weekday_text day.weekday ++ (codes ", " ++ (decimal day.hours ++ codes " hours")))

-- the mark of an hour of a session, from 1, stands: bit 0 is that of the first
abbrev pub is_marked : ℕ → ℕ → Bool
is_marked marks hour = bit marks (hour - 1)

-- the hours of a session whose marks stand
abbrev pub marked_hours : ℕ → List ℕ
marked_hours marks = filter (is_marked marks) (1 ∷ 2 ∷ 3 ∷ 4 ∷ 5 ∷ [])

-- a nomination, by the hours in which it is above the right
abbrev pub nominated_text : List ℕ → List ℕ
nominated_text [] = codes "granted"
nominated_text (hour ∷ []) = codes "granted: above the right in hour " ++ (row_text (hour ∷ []) ++ codes " of the session")
nominated_text (hour ∷ next ∷ hours) = codes "granted: above the right in hours " ++ (row_text (hour ∷ next ∷ hours) ++ codes " of the session")

-- a matching, by the count of rights
abbrev pub matched_text : ℕ → List ℕ
matched_text rights = if rights == 1 then codes "granted: 1 right" else codes "granted: " ++ (decimal rights ++ codes " rights")

-- a granted call, by its kind and detail
abbrev pub granted_text : CallKind → ℕ → List ℕ
granted_text Direction number = codes "granted: direction " ++ decimal number
granted_text Profile number = codes "granted: profile " ++ decimal number
granted_text (Party code) number = codes "granted: party " ++ decimal number
granted_text (Offer of) left = codes "granted: " ++ (decimal left ++ codes " MW left")
granted_text Bid right = codes "granted: right " ++ decimal right
granted_text Nominate marks = nominated_text (marked_hours marks)
granted_text Match rights = matched_text rights

-- the shortfall is said where there is one
abbrev pub shortfall_text : ℕ → List ℕ
shortfall_text shortfall = if shortfall == 0 then [] else codes ", shortfall " ++ (decimal shortfall ++ codes " MW")

-- capacity left
abbrev pub left_text : LeftRead → List ℕ
left_text read = decimal read.left ++ (codes " MW left" ++ shortfall_text read.shortfall)

-- a right: holder, direction, session and MW
abbrev pub right_text : RightRead → List ℕ
right_text read =
    codes "party " ++ (decimal read.holder ++ (codes ", direction " ++ (decimal read.direction
    ++ (codes ", session " ++ (decimal read.session.0 ++ (codes ", " ++ (row_text read.mw ++ codes " MW")))))))

-- confirmed MW
abbrev pub confirmed_text : List ℕ → List ℕ
confirmed_text mw = row_text mw ++ codes " MW confirmed"

-- what is short in an hour of the day
abbrev pub short_text : ℕ → CapacityOf → List ℕ
short_text hour OfDirection = codes "short: hour " ++ (decimal hour ++ codes ", direction")
short_text hour (OfProfile profile) = codes "short: hour " ++ (decimal hour ++ (codes ", profile " ++ decimal profile))

-- each refusal's word
abbrev pub refused_text : Refusal → List ℕ
refused_text Record = codes "record"
refused_text Date = codes "date"
refused_text Field = codes "field"
refused_text SetupShut = codes "set-up shut"
refused_text Clock = codes "clock"
refused_text Unknown = codes "unknown"
refused_text Taken = codes "taken"
refused_text TooEarly = codes "too early"
refused_text TooLate = codes "too late"
refused_text Hours = codes "hours"
refused_text Access = codes "access"
refused_text Owner = codes "owner"
refused_text Cycle = codes "cycle"
refused_text Full = codes "full"
refused_text (Short hour capacity) = short_text hour.0 capacity

-- what is granted or read, or why it is refused
abbrev pub reply_text : Reply → List ℕ
reply_text (Opening (Ok opened)) = opened_text opened.1
reply_text (Opening (Err refusal)) = refused_text refusal
reply_text (Call kind (Ok detail)) = granted_text kind detail
reply_text (Call kind (Err refusal)) = refused_text refusal
reply_text (Left (Ok read)) = left_text read
reply_text (Left (Err refusal)) = refused_text refusal
reply_text (Right (Ok read)) = right_text read
reply_text (Right (Err refusal)) = refused_text refusal
reply_text (Confirmed (Ok mw)) = confirmed_text mw
reply_text (Confirmed (Err refusal)) = refused_text refusal
