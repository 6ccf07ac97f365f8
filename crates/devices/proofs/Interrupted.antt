-- Calls that were interrupted, and the one that wasn't.
use Rattle.std.{specs.Io.KnownBytes.{Appends, Consumes, Keeps, ReadConsumes, WriteAppends}, proofs.Common.{ℕ, Err, IsErrAnd, List, None}}
use Rattle.std.proofs.{Common.{Ok, Option, Result, Some, take}, KnownBytes.{Keeps-refl, Keeps-trans}}

-- no call was made
pub none_made : (a : Option (List ℕ)) → Keeps a a
none_made = Keeps-refl

-- one more call was interrupted
pub one_read : {E : Type 0} (a b c : Option (List ℕ)) (r : Result ℕ E) (buf : List ℕ) (P : E → Type 0) → Keeps a b → ReadConsumes b c r buf → IsErrAnd r P → Keeps a c
one_read a b c (Ok n) buf P kept read wrong = absurd wrong
one_read a b c (Err e) buf P kept read wrong = Keeps-trans a b c kept read

pub one_written : {E : Type 0} (a b c : Option (List ℕ)) (r : Result ℕ E) (buf : List ℕ) (P : E → Type 0) → Keeps a b → WriteAppends b c r buf → IsErrAnd r P → Keeps a c
one_written a b c (Ok n) buf P kept wrote wrong = absurd wrong
one_written a b c (Err e) buf P kept wrote wrong = Keeps-trans a b c kept wrote

pub one_flushed : (a b c : Option (List ℕ)) → Keeps a b → Keeps b c → Keeps a c
one_flushed = Keeps-trans

kept_Consumes : (a b c : Option (List ℕ)) (bs : List ℕ) → Keeps a b → Consumes b c bs → Consumes a c bs
kept_Consumes None b c bs kept next = tt
kept_Consumes (Some x) None c bs kept next = absurd kept
kept_Consumes (Some x) (Some y) None bs kept next = next
kept_Consumes (Some x) (Some y) (Some z) bs kept next = cc

kept_Appends : (a b c : Option (List ℕ)) (bs : List ℕ) → Keeps a b → Appends b c bs → Appends a c bs
kept_Appends None b c bs kept next = tt
kept_Appends (Some x) None c bs kept next = absurd kept
kept_Appends (Some x) (Some y) None bs kept next = next
kept_Appends (Some x) (Some y) (Some z) bs kept next = cc

-- the call that wasn't interrupted
pub then_read : {E : Type 0} (a b c : Option (List ℕ)) (r : Result ℕ E) (buf : List ℕ) → Keeps a b → ReadConsumes b c r buf → ReadConsumes a c r buf
then_read a b c (Ok n) buf kept read = (kept_Consumes a b c (take n buf) kept read.0, read.1)
then_read a b c (Err e) buf kept read = Keeps-trans a b c kept read

pub then_written : {E : Type 0} (a b c : Option (List ℕ)) (r : Result ℕ E) (buf : List ℕ) → Keeps a b → WriteAppends b c r buf → WriteAppends a c r buf
then_written a b c (Ok n) buf kept wrote = kept_Appends a b c (take n buf) kept wrote
then_written a b c (Err e) buf kept wrote = Keeps-trans a b c kept wrote
