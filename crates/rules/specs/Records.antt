-- 01, Call records: a map of two bytes, then the fields whose bit stands, in bit order. Numbers of two bytes are low byte first.
-- Assumes nothing.
use Rattle.std.specs.Prelude.{ℕ, zero, suc, ◌+◌, ◌*◌, ◌/◌, ◌%◌, Bool, false, if◌then◌else◌, ◌||◌, ◌&&◌, not, List, [], ◌∷◌, ◌++◌, ◌==◌, nat_lt, length, get_or, drop}
use Rattle.rules.specs.Basics.{bit, map_of, has}
use Rattle.rules.specs.Calls.{Reply, no_details}
use Rattle.rules.specs.Refusals.{order, first_of}
use Rattle.rules.specs.declared.CallRecord.{CallRecord}

-- ---- fields and kinds

-- the width of each field in bytes, by bit: 0 kind, 1 time, 2 party, 3 other, 4 direction, 5 profile, 6 session, 7 right, 8 side, 9 to 13 MW, 14 hour
unfoldable pub widths : List ℕ
widths = 1 ∷ 2 ∷ 1 ∷ 1 ∷ 1 ∷ 1 ∷ 1 ∷ 2 ∷ 1 ∷ 2 ∷ 2 ∷ 2 ∷ 2 ∷ 2 ∷ 1 ∷ []

-- the fields of a call in the order of the bits, and the call of such a list
unfoldable pub fields_of : CallRecord → List ℕ
fields_of c =
    c.kind ∷ c.time ∷ c.party ∷ c.other ∷ c.direction ∷ c.profile ∷ c.session.0 ∷ c.right ∷ c.side
    ∷ get_or c.mw 0 0 ∷ get_or c.mw 1 0 ∷ get_or c.mw 2 0 ∷ get_or c.mw 3 0 ∷ get_or c.mw 4 0 ∷ c.hour.0 ∷ []

unfoldable pub call_of : List ℕ → CallRecord
call_of fs =
    record {
      kind = get_or fs 0 0;
      time = get_or fs 1 0;
      party = get_or fs 2 0;
      other = get_or fs 3 0;
      direction = get_or fs 4 0;
      profile = get_or fs 5 0;
      session = record { 0 = get_or fs 6 0 };
      right = get_or fs 7 0;
      side = get_or fs 8 0;
      mw = get_or fs 9 0 ∷ get_or fs 10 0 ∷ get_or fs 11 0 ∷ get_or fs 12 0 ∷ get_or fs 13 0 ∷ [];
      hour = record { 0 = get_or fs 14 0 };
    }

-- the bits of a kind: those that always stand, and those of its MW, which stand exactly when the MW isn't 0
pub record Kind : Type 0 where
  pub always : List ℕ
  pub mws : List ℕ

abbrev no_kind : Kind
no_kind = record { always = []; mws = [] }

-- the kinds by number: 1 direction offer, 2 profile offer, 3 bid, 4 nomination, 5 matching
unfoldable pub kinds : List Kind
kinds =
    no_kind
    ∷ record { always = 0 ∷ 1 ∷ 4 ∷ 14 ∷ []; mws = 9 ∷ [] }
    ∷ record { always = 0 ∷ 1 ∷ 5 ∷ 14 ∷ []; mws = 9 ∷ [] }
    ∷ record { always = 0 ∷ 1 ∷ 2 ∷ 4 ∷ 6 ∷ []; mws = 9 ∷ 10 ∷ 11 ∷ 12 ∷ 13 ∷ [] }
    ∷ record { always = 0 ∷ 1 ∷ 2 ∷ 3 ∷ 7 ∷ 8 ∷ []; mws = 9 ∷ 10 ∷ 11 ∷ 12 ∷ 13 ∷ [] }
    ∷ record { always = 0 ∷ 1 ∷ 4 ∷ 6 ∷ []; mws = [] }
    ∷ []

abbrev pub kind_at : ℕ → Kind
kind_at k = get_or kinds k no_kind

abbrev pub is_kind : ℕ → Bool
is_kind k = nat_lt 0 k && nat_lt k 6

-- bit i stands in a record of the kind whose field i is v
unfoldable pub stands : Kind → ℕ → ℕ → Bool
stands k i v = has i k.always || (has i k.mws && not (v == 0))

-- for each field from bit i on
unfoldable pub standing : Kind → ℕ → List ℕ → List Bool
standing k i [] = []
standing k i (v ∷ vs) = stands k i v ∷ standing k (suc i) vs

-- the map of a kind's record with the given fields
abbrev pub map_for : ℕ → List ℕ → ℕ
map_for kind fs = map_of (standing (kind_at kind) 0 fs)

-- a field foreign to the kind is not zero, from bit i on
unfoldable pub foreign : Kind → ℕ → List ℕ → Bool
foreign k i [] = false
foreign k i (v ∷ vs) = (not (has i k.always || has i k.mws) && not (v == 0)) || foreign k (suc i) vs

-- ---- writing

-- a number in w bytes, low byte first
unfoldable pub bytes_of : ℕ → ℕ → List ℕ
bytes_of zero v = []
bytes_of (suc w) v = v % 256 ∷ bytes_of w (v / 256)

-- the fields whose bit stands, from bit i on; ws are their widths
unfoldable pub body : Kind → ℕ → List ℕ → List ℕ → List ℕ
body k i [] vs = []
body k i (w ∷ ws) [] = []
body k i (w ∷ ws) (v ∷ vs) = (if stands k i v then bytes_of w v else []) ++ body k (suc i) ws vs

-- the record of a call
unfoldable pub record_of : CallRecord → List ℕ
record_of c = bytes_of 2 (map_for c.kind (fields_of c)) ++ body (kind_at c.kind) 0 widths (fields_of c)

-- 1 record, for the writer: kind not 1 to 5, a field foreign to the kind not zero, buffer too short
unfoldable pub writer_refuses : CallRecord → List ℕ → ℕ → Bool
writer_refuses c buffer n =
    if n == 1 then not (is_kind c.kind) || foreign (kind_at c.kind) 0 (fields_of c) || nat_lt (length buffer) (length (record_of c)) else false

pub record Written : Type 0 where
  pub reply : Reply
  pub buffer : List ℕ

-- bytes past the record are untouched, and so is the whole buffer where the writing is refused
unfoldable pub writing : CallRecord → List ℕ → Written
writing c buffer =
    let n : ℕ = first_of (writer_refuses c buffer) order in
    record {
      reply = record { number = n; first = if n == 0 then length (record_of c) else 0; second = 0 };
      buffer = if n == 0 then record_of c ++ drop (length (record_of c)) buffer else buffer;
    }

-- ---- reading

-- the number of w bytes at a position
unfoldable pub number_at : ℕ → List ℕ → ℕ → ℕ
number_at zero s at = 0
number_at (suc w) s at = get_or s at 0 + 256 * number_at w s (at + 1)

abbrev pub map_at : List ℕ → ℕ
map_at s = number_at 2 s 0

-- how many bytes a field of width w takes where its bit is as given
abbrev pub taking : ℕ → Bool → ℕ
taking w p = if p then w else 0

-- the fields from bit i on, of which the first stands at a position; a field whose bit doesn't stand is 0
unfoldable pub fields_at : List ℕ → ℕ → ℕ → List ℕ → ℕ → List ℕ
fields_at [] i map s at = []
fields_at (w ∷ ws) i map s at = (if bit map i then number_at w s at else 0) ∷ fields_at ws (suc i) map s (at + taking w (bit map i))

-- the position past them
unfoldable pub end_at : List ℕ → ℕ → ℕ → ℕ → ℕ
end_at [] i map at = at
end_at (w ∷ ws) i map at = end_at ws (suc i) map (at + taking w (bit map i))

unfoldable pub fields_in : List ℕ → List ℕ
fields_in s = fields_at widths 0 (map_at s) s 2

unfoldable pub end_in : List ℕ → ℕ
end_in s = end_at widths 0 (map_at s) 2

-- 1 record, for the reader: ends early (in the map or after it), bit 15 set, kind not 1 to 5, and the map not the kind's or a zero MW written:
-- the map is not that of a record of this kind with these fields
unfoldable pub reader_refuses : List ℕ → ℕ → Bool
reader_refuses s n =
    let kind : ℕ = get_or (fields_in s) 0 0 in
    if n == 1 then nat_lt (length s) 2 || nat_lt (length s) (end_in s) || bit (map_at s) 15 || not (is_kind kind) || not (map_at s == map_for kind (fields_in s)) else false

pub record RecordReply : Type 0 where
  pub reply : Reply
  pub length : ℕ
  pub call : CallRecord

-- the call of zeros
unfoldable pub no_call : CallRecord
no_call = call_of []

-- what follows the record is ignored; both details are 0
unfoldable pub reading : List ℕ → RecordReply
reading s =
    let n : ℕ = first_of (reader_refuses s) order in
    record {
      reply = no_details n;
      length = if n == 0 then end_in s else 0;
      call = if n == 0 then call_of (fields_in s) else no_call;
    }
