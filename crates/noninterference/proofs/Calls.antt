-- Calls end alike in two machines that are alike to the caller's label: the cases of all kinds of calls.
use Rattle.std.proofs.Common.{ℕ, ◌≡◌, Some}
use Rattle.base.specs.declared.ids.ObjId.{ObjId}
use Rattle.machine.specs.{declared.call.Call.{Call, Call as call}, Authority.label_of, Layout.Layout, Machine.Machine, Step.call_of}
use Rattle.{steps.proofs.Admission.IsCaller, policy.specs.{Change.ActorTest, Domain.EdgeTest}}
use Rattle.noninterference.proofs.{Answering.reply_alike, Both.AreBoth, Ends.EndsAlike, Receiving.receive_alike, Refusals.call_refused}
use Rattle.noninterference.proofs.Rows.{configure_alike, fetch_alike, poll_alike, read_alike, signal_alike, unbind_alike}
use Rattle.noninterference.proofs.{Rows.{wait_alike, write_alike}, Sending.{endpoint_call_alike, send_alike}}

module _ (t : Layout) (allowed : EdgeTest) (acts : ActorTest) (a : ℕ) (m n : Machine) (both : AreBoth t allowed acts a m n) (caller : ObjId)
    (mine : label_of t m caller ≡ Some a) (is : IsCaller m caller) where
  pub call_alike : (which : Call) → EndsAlike m n (call_of m caller which) (call_of n caller which)
  call_alike (call.Signal address) = signal_alike t allowed acts a m n both caller mine address
  call_alike (call.Poll address) = poll_alike t allowed acts a m n both caller mine is address
  call_alike (call.Wait address) = wait_alike t allowed acts a m n both caller mine is address
  call_alike (call.Send address words capability) = send_alike t allowed acts a m n both caller mine is address words capability
  call_alike (call.Call address words capability) = endpoint_call_alike t allowed acts a m n both caller mine is address words capability
  call_alike (call.Receive address reply slot) = receive_alike t allowed acts a m n both caller mine is address reply slot
  call_alike (call.Reply address words) = reply_alike t allowed acts a m n both caller mine is address words
  call_alike call.Fetch = fetch_alike t allowed acts a m n both caller mine is
  call_alike (call.Read address index) = read_alike t allowed acts a m n both caller mine address index
  call_alike (call.Write address index word) = write_alike t allowed acts a m n both caller mine address index word
  call_alike (call.Configure control context budget period) =
      configure_alike t allowed acts a m n both caller mine control context budget period
  call_alike (call.Unbind context) = unbind_alike t allowed acts a m n both caller mine context
  call_alike (call.Copy to from rights) = call_refused t allowed acts a m n both caller (call.Copy to from rights) tt
  call_alike (call.Mint to from rights gift) = call_refused t allowed acts a m n both caller (call.Mint to from rights gift) tt
  call_alike (call.Move to from) = call_refused t allowed acts a m n both caller (call.Move to from) tt
  call_alike (call.Delete slot) = call_refused t allowed acts a m n both caller (call.Delete slot) tt
  call_alike (call.Revoke slot) = call_refused t allowed acts a m n both caller (call.Revoke slot) tt
  call_alike (call.Retype untyped of bits to offset count) =
      call_refused t allowed acts a m n both caller (call.Retype untyped of bits to offset count) tt
  call_alike (call.SetSpace thread space) = call_refused t allowed acts a m n both caller (call.SetSpace thread space) tt
  call_alike (call.ClearSpace thread) = call_refused t allowed acts a m n both caller (call.ClearSpace thread) tt
  call_alike (call.Suspend thread) = call_refused t allowed acts a m n both caller (call.Suspend thread) tt
  call_alike (call.Resume thread) = call_refused t allowed acts a m n both caller (call.Resume thread) tt
  call_alike (call.Bind context thread) = call_refused t allowed acts a m n both caller (call.Bind context thread) tt
