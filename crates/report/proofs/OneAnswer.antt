-- That the bytes of files have one answer, if what the files hold has one.
use Rattle.std.proofs.Common.{ℕ, ◌∙◌, ◌≡◌, Err, List, None, Ok, Option, Result, Some, sym}
use Rattle.{base.specs.declared.edge.Edge.Edge, words.specs.declared.faults.Fault.Fault}
use Rattle.{forms.specs.declared.file.File.{File, File as file}, machine.specs.Layout.Layout}
use Rattle.captext.specs.{Policies.read_policy_of, Tables.read_table_of}
use Rattle.commands.specs.declared.{answer.Answer.Answer, load.{Three.Three, With.With}}
use Rattle.commands.specs.{Files.{Contents, and_then, as_table, faulty, held_by, misused, pair_contents, unknown, whole}, Given.layout_of}
use Rattle.report.specs.OneAnswer.{IsAnsweredOnce, ThreeHaveOneAnswer, TwoHaveOneAnswer}

-- two answers say the same
abbrev pub IsSame : Answer → Answer → Type 0
IsSame a b = (a.text.items ≡ b.text.items) × (a.status ≡ b.status)

-- two answers to one value say the same
abbrev pub IsOne : (Answer → Type 0) → Type 0
IsOne judges = (a b : Answer) → judges a → judges b → IsSame a b

abbrev pub JudgesTwoOnce : (Layout → List Edge → Answer → Type 0) → Type 0
JudgesTwoOnce judges = (t : Layout) (edges : List Edge) → IsOne (judges t edges)

abbrev pub JudgesOnce : {X : Type 0} → (Layout → List Edge → X → Answer → Type 0) → Type 0
JudgesOnce {X} judges = (t : Layout) (edges : List Edge) (x : X) → IsOne (judges t edges x)

-- the bytes of the files are known
abbrev IsKnown : {X : Type 0} → Contents X → Type 0
IsKnown (whole x) = Unit {0}
IsKnown (faulty file text table fault) = Unit {0}
IsKnown (misused why) = Unit {0}
IsKnown unknown = ⊥

held_known : {X : Type 0} (file : File) (table : Option Layout) (text : List ℕ) (found : Result X Fault) → IsKnown (held_by file table text found)
held_known file table text (Ok x) = tt
held_known file table text (Err fault) = tt

then_known : {X Y : Type 0} (contents : Contents Y) (next : Y → Contents X) → IsKnown contents → ((y : Y) → IsKnown (next y))
    → IsKnown (and_then contents next)
then_known (whole y) next known each = each y
then_known (faulty file text table fault) next known each = tt
then_known (misused why) next known each = tt
then_known unknown next known each = absurd known

-- files have one answer if what they hold has one
module _ {X : Type 0} (judges : X → Answer → Type 0) where
  whole_once : (x : X) → IsOne (judges x) → IsAnsweredOnce judges (whole x)
  whole_once x one text other status another (a, is, says, exit) (b, also, tells, out) =
      let same = one a b is also in (sym says ∙ same.0 ∙ tells, sym exit ∙ same.1 ∙ out)

  then_once : {Y : Type 0} (contents : Contents Y) (next : Y → Contents X) → IsKnown contents → ((y : Y) → IsAnsweredOnce judges (next y))
      → IsAnsweredOnce judges (and_then contents next)
  then_once (whole y) next known once = once y
  then_once (faulty file faulty_text table fault) next known once = λ text other status another is also. (is.0 ∙ sym also.0, is.1 ∙ sym also.1)
  then_once (misused why) next known once = λ text other status another is also. absurd is
  then_once unknown next known once = absurd known

pub of_two : (judges : Layout → List Edge → Answer → Type 0) → JudgesTwoOnce judges → TwoHaveOneAnswer judges
of_two judges one table policy =
    let judged : With (List Edge) → Answer → Type 0 = λ w. judges (layout_of w.system) w.second in
    then_once judged (as_table file.Table file.Description table) _
    (then_known (held_by file.Table None table (read_table_of table)) _ (held_known file.Table None table (read_table_of table)) (λ t. tt)) (λ s.
    then_once judged (held_by file.Policy (Some (layout_of s)) policy (read_policy_of (layout_of s) policy)) _
    (held_known file.Policy (Some (layout_of s)) policy (read_policy_of (layout_of s) policy)) (λ edges.
    whole_once judged (record { system = s; second = edges }) (one (layout_of s) edges)))

pub of_three : {X : Type 0} (name : File) (read : Layout → List ℕ → Result X Fault) (judges : Layout → List Edge → X → Answer → Type 0)
    → JudgesOnce judges → ThreeHaveOneAnswer name read judges
of_three {X} name read judges one table policy third =
    let judged : Three X → Answer → Type 0 = λ s. judges s.table s.policy s.third in
    then_once judged (pair_contents (Some table) (Some policy)) _
    (then_known (held_by file.Table None table (read_table_of table)) _ (held_known file.Table None table (read_table_of table)) (λ t.
    then_known (held_by file.Policy (Some t) policy (read_policy_of t policy)) _ (held_known file.Policy (Some t) policy (read_policy_of t policy)) (λ edges. tt))) (λ s.
    then_once judged (held_by name (Some s.table) third (read s.table third)) _ (held_known name (Some s.table) third (read s.table third)) (λ x.
    whole_once judged (record { table = s.table; policy = s.policy; third = x }) (one s.table s.policy x)))
