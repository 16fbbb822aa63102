-- A whole record: what the parts of the reader and the writer find and store is what they promise.
-- Assumes nothing.
use Prim.Native.Nat.{ℕ, ◌<◌, ◌≤◌}
use mathlib.Core.Path.{◌≡◌, refl, sym, ap, ◌∙◌}
use mathlib.Core.Bool.{Bool, true, false, ◌||◌, not}
use mathlib.Core.List.{List, ◌++◌}
use native.Mathlib.Omega.{arith}
use native.Mathlib.Nat.{zero-add}
use lib.Dec.{ltb, eqb}
use lib.ListN.{length, get_or, length-append}
use lib.Seq.{sets, sets-eq}
use borrow.Author.Tests.{ltb-false}
use Rattle.std.specs.Prelude.{Ok, Err}
use Rattle.rules.specs.Basics.{bit}
use Rattle.rules.specs.Records.{widths, fields_of, call_of, kind_at, is_kind, map_for, foreign, bytes_of, body, record_of, writer_refuses, Written, map_at, fields_in, end_in, reader_refuses}
use Rattle.rules.specs.declared.Refusal.TheVariants.{Record}
use Rattle.rules.specs.declared.CallRecord.{CallRecord}
use Rattle.rules.proofs.Records.{bytes_length, neither, fields_below, reading_by, writing_by}
use Rattle.fields.specs.Fields.{FieldsFit, CallFits}
use Rattle.record.specs.declared.Found.{Found}
use Rattle.record.specs.Steps.{Finds, refuses_found, Length}
use Rattle.record.specs.Promises.{Reads, Writes}
use Rattle.rules.proofs.Stores.{sets-append}

-- ---- reading

or_joined : (t a b c : Bool) → (t || (a || b || c)) ≡ (t || a || b || c)
or_joined true a b c = refl
or_joined false a b c = refl

module _ (s : List ℕ) (f : Found) (e : Finds s f) (b : (i : ℕ) → get_or s i 0 < 256) where
  pub found_fits : FieldsFit f.fields.0
  unfolding fields_in
  found_fits i = rw e.values_found (fields_below widths 0 (map_at s) s 2 b i)

  reader_test : refuses_found f (length s) ≡ reader_refuses s 1
  unfolding reader_refuses
  reader_test =
      let kind : ℕ = get_or (fields_in s) 0 0 in
      rw (e.map_found, e.values_found, e.end_found)
      (or_joined (ltb (length s) 2 || ltb (length s) (end_in s)) (bit (map_at s) 15) (not (is_kind kind)) (not (eqb (map_at s) (map_for kind (fields_in s)))))

  pub read_refused : {r : Bool} → r ≡ refuses_found f (length s) → r ≡ true → Reads s (Err Record)
  read_refused told t = record { bytes_fit = b; reply = sym (reading_by s true (sym (told ∙ reader_test) ∙ t)) }

  pub read_granted : {c : CallRecord} {r : Bool} → c ≡ call_of f.fields.0 → r ≡ refuses_found f (length s) → r ≡ false → Reads s (Ok (record { length = f.end; call = c }))
  read_granted h told t =
      record { bytes_fit = b; reply = rw (h, e.values_found, e.end_found) (sym (reading_by s false (sym (told ∙ reader_test) ∙ t))) }

-- ---- writing

module _ (c : CallRecord) (b : List ℕ) {vs : List ℕ} {n : ℕ} (e : vs ≡ fields_of c) (l : Length vs n) where
  abbrev map_bytes : List ℕ
  map_bytes = bytes_of 2 (map_for (get_or vs 0 0) vs)

  abbrev field_bytes : List ℕ
  field_bytes = body (kind_at (get_or vs 0 0)) 0 widths vs

  whole : map_bytes ++ field_bytes ≡ record_of c
  unfolding record_of fields_of
  whole = rw e

  size : n ≡ length (record_of c)
  size = l.bytes ∙ sym (rw (← whole, length-append map_bytes field_bytes, bytes_length 2 (map_for (get_or vs 0 0) vs)))

  abbrev tests : Bool
  tests = not (is_kind (get_or vs 0 0)) || foreign (kind_at (get_or vs 0 0)) 0 vs || ltb (length b) n

  writer_test : tests ≡ writer_refuses c b 1
  unfolding writer_refuses fields_of
  writer_test = rw (size, e)

  pub room : {r : Bool} → r ≡ tests → r ≡ false → n ≤ length b
  room told t = ltb-false (length b) n (neither (not (is_kind (get_or vs 0 0)) || foreign (kind_at (get_or vs 0 0)) 0 vs) (ltb (length b) n) (sym told ∙ t)).1

  pub write_refused : {r : Bool} → CallFits c → r ≡ tests → r ≡ true → Writes c b (Err Record) b
  write_refused fit told t =
      let said = writing_by c b true (sym (told ∙ writer_test) ∙ t) in
      record { call_fits = fit; reply = sym (ap (λ (w : Written). w.reply) said); buffer = sym (ap (λ (w : Written). w.buffer) said) }

  pub write_granted : {r : Bool} → CallFits c → r ≡ tests → r ≡ false → Writes c b (Ok n) (sets (sets b 0 map_bytes) 2 field_bytes)
  write_granted fit told t =
      let said = writing_by c b false (sym (told ∙ writer_test) ∙ t) in
      let one : sets b 0 (map_bytes ++ field_bytes) ≡ sets (sets b 0 map_bytes) 2 field_bytes =
      sets-append b 0 map_bytes field_bytes ∙ rw (bytes_length 2 (map_for (get_or vs 0 0) vs)) in
      let stored = sets-eq (record_of c) b 0 (omega (arith, size, room told t)) in
      record {
        call_fits = fit;
        reply = rw size (sym (ap (λ (w : Written). w.reply) said));
        buffer = sym one ∙ rw (whole, stored, zero-add (length (record_of c))) (sym (ap (λ (w : Written). w.buffer) said));
      }
