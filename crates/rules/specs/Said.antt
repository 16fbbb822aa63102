-- An answer, and the number and the two details that the papers give each case of it.
-- Assumes nothing.
use Rattle.std.specs.Prelude.{ℕ, ◌+◌, Result, Ok, Err}
use Rattle.rules.specs.Calls.{Reply, no_details}
use Rattle.rules.specs.declared.CapacityOf.{CapacityOf}
use Rattle.rules.specs.declared.CapacityOf.TheVariants.{Direction, Profile}
use Rattle.rules.specs.declared.Refusal.{Refusal}
use Rattle.rules.specs.declared.Refusal.TheVariants.{Record, Date, Field, SetupShut, Clock, Unknown, Taken, TooEarly, TooLate, Hours, Access, Owner, Cycle, Full, Short}
use Rattle.rules.specs.declared.ReplyNumbers.{ReplyNumbers}

-- 0 for the direction, or 1 + the profile's number
abbrev pub capacity_number : CapacityOf → ℕ
capacity_number Direction = 0
capacity_number (Profile p) = 1 + p

-- the answer to a call: granted with a detail, or refused
abbrev pub Answer : Type 0
Answer = Result ℕ Refusal

-- the reply that a refusal stands for
abbrev pub said_refusal : Refusal → Reply
said_refusal Record = no_details 1
said_refusal Date = no_details 17
said_refusal Field = no_details 3
said_refusal SetupShut = no_details 4
said_refusal Clock = no_details 5
said_refusal Unknown = no_details 6
said_refusal Taken = no_details 7
said_refusal TooEarly = no_details 16
said_refusal TooLate = no_details 8
said_refusal Hours = no_details 9
said_refusal Access = no_details 10
said_refusal Owner = no_details 11
said_refusal Cycle = no_details 12
said_refusal Full = no_details 13
said_refusal (Short h l) = record { number = 15; first = h.0; second = capacity_number l }

-- the reply that an answer stands for
abbrev pub said : Answer → Reply
said (Ok n) = record { number = 0; first = n; second = 0 }
said (Err r) = said_refusal r

-- the three numbers as the program holds them
abbrev pub said_numbers : ReplyNumbers → Reply
said_numbers n = record { number = n.number; first = n.first; second = n.second }
