-- Channels and their ends: they are those of the elements, in their order.
use Rattle.std.specs.{List.position, Option.{option_map, option_to_list}, Prelude.{codes, map}, Str.bytes_eq}
use Rattle.std.proofs.Common.{[], ℕ, ◌++◌, ◌∙◌, ◌∷◌, ◌≡◌, List, None, Ok, Option, Some, ap, cond, false, refl, subst, sym}
use Rattle.{std.proofs.lemmas.{Grind.flat_map-append, List.{append-nil, append_assoc, map-append}}, xml.specs.Document.Node}
use Rattle.microkit.specs.declared.{description.{Channel.Channel, End.End}, draft.Begun.Begun, flaws.{ElementFault.ElementFault, Flaw.Flaw}}
use Rattle.microkit.specs.{declared.{flaws.Spot.Spot, kinds.Kind.Kind}, Attributes.text_in, Channels.{calling, channel_at, channel_of}}
use Rattle.microkit.specs.Channels.{channel_part_at, domain_number, end_at, end_begun, end_domain, end_in, end_joined, whole_at}
use Rattle.microkit.specs.{Description.Domain, Draft.Draft, Flaws.of_element, Outline.{Ended, end_says, ended, ended_in, ends_of}}
use Rattle.microkit.proofs.{Sound.{found_number, given, joins, parts, same_ok, unflawed}, Within.IsWithin}
use Rattle.microkit.specs.declared.kinds.Kind.TheVariants as kind

-- the ends so far of the channel that is begun
abbrev first_ended : Option End → List Ended
first_ended None = []
first_ended (Some end) = ended end ∷ []

abbrev pub begun_ends : Option Begun → List Ended
begun_ends None = []
begun_ends (Some begun) = first_ended begun.first

abbrev pub begun_lines : Option Begun → List ℕ
begun_lines None = []
begun_lines (Some begun) = begun.spot.line ∷ []

abbrev pub lines_of : List Channel → List ℕ
lines_of channels = map (λ (channel : Channel). channel.line) channels

abbrev pub ends_so_far : Draft → List Ended
ends_so_far draft = ends_of draft.description.channels ++ begun_ends draft.begun

abbrev pub lines_so_far : Draft → List ℕ
lines_so_far draft = lines_of draft.description.channels ++ begun_lines draft.begun

-- the line of a channel
abbrev pub line_says : Node → List ℕ
line_says node = cond (bytes_eq node.name (codes "channel")) (node.line ∷ []) []

-- no channel is begun
pub none_begun : (begun : Option Begun) (y : Unit {0}) → whole_at begun ≡ Ok y → begun ≡ None
unfolding whole_at of_element
none_begun None y e = refl
none_begun (Some begun) y e = absurd cc

-- one more element
pub record IsEnded (node : Node) (draft next : Draft) : Type 0 where
  pub ends : ends_so_far next ≡ ends_so_far draft ++ end_says draft.description.domains node
  pub lines : lines_so_far next ≡ lines_so_far draft ++ line_says node

module _ (node : Node) (draft : Draft) where
  abbrev domains : List Domain
  domains = draft.description.domains

  abbrev end_here : List Ended
  end_here =
      option_to_list (option_map (ended_in node) (position (λ (domain : Domain). bytes_eq domain.name (text_in node (codes "pd"))) domains))

  -- what an element of this name says of channels
  no_end : (name : List ℕ) → node.name ≡ name → bytes_eq name (codes "end") ≡ false → end_says domains node ≡ []
  unfolding end_says
  no_end name is other = ap (λ n. cond (bytes_eq n (codes "end")) end_here []) is ∙ ap (λ t. cond t end_here []) other

  no_line : (name : List ℕ) → node.name ≡ name → bytes_eq name (codes "channel") ≡ false → line_says node ≡ []
  no_line name is other = ap (λ n. cond (bytes_eq n (codes "channel")) (node.line ∷ []) []) is ∙ ap (λ t. cond t (node.line ∷ []) []) other

  an_end : (domain : ℕ) → node.name ≡ codes "end" → domain_number domains (text_in node (codes "pd")) ≡ Ok domain
      → end_says domains node ≡ ended_in node domain ∷ []
  unfolding end_says domain_number
  an_end domain is of =
      ap (λ n. cond (bytes_eq n (codes "end")) end_here []) is
      ∙ ap (λ o. option_to_list (option_map (ended_in node) o)) (found_number _ _ domain of)

  beside : (name : List ℕ) (next : Draft) → node.name ≡ name → bytes_eq name (codes "end") ≡ false → bytes_eq name (codes "channel") ≡ false
      → given {E = ElementFault} draft ≡ Ok next → IsEnded node draft next
  beside name next is other none e =
      subst (λ n. IsEnded node draft n) (same_ok {E = ElementFault} _ _ e)
      (record {
        ends = sym (ap (λ more. ends_so_far draft ++ more) (no_end name is other) ∙ append-nil (ends_so_far draft));
        lines = sym (ap (λ more. lines_so_far draft ++ more) (no_line name is none) ∙ append-nil (lines_so_far draft));
      })

  channel_step : (spot : Spot) (next : Draft) → spot.line ≡ node.line → node.name ≡ codes "channel" → channel_at spot draft ≡ Ok next
      → IsEnded node draft next
  unfolding channel_at
  channel_step spot next line is e =
      let one = parts _ _ _ e in
      let begun = none_begun draft.begun one.x one.is in
      subst (λ n. IsEnded node draft n) (same_ok {E = ElementFault} _ _ one.then)
      (record {
        ends = sym
            (ap (λ b. (ends_of draft.description.channels ++ begun_ends b) ++ end_says domains node) begun
            ∙ ap (λ more. (ends_of draft.description.channels ++ []) ++ more) (no_end _ is refl)
            ∙ append-nil (ends_of draft.description.channels ++ []));
        lines = sym
            (ap (λ b. (lines_of draft.description.channels ++ begun_lines b) ++ line_says node) begun
            ∙ ap (λ more. (lines_of draft.description.channels ++ []) ++ more)
            (ap (λ n. cond (bytes_eq n (codes "channel")) (node.line ∷ []) []) is)
            ∙ ap (λ ls. ls ++ node.line ∷ []) (append-nil (lines_of draft.description.channels))
            ∙ ap (λ l. lines_of draft.description.channels ++ l ∷ []) (sym line));
      })

  joined_step : (end : End) (begun : Begun) (first : Option End) (next : Draft) → node.name ≡ codes "end"
      → end_says domains node ≡ ended end ∷ [] → draft.begun ≡ Some begun → begun.first ≡ first
      → end_joined end begun.spot first draft ≡ Ok next → IsEnded node draft next
  unfolding end_joined calling
  joined_step end begun None next is says begins has e =
      subst (λ n. IsEnded node draft n) (same_ok {E = ElementFault} _ _ e)
      (record {
        ends = sym
            (ap (λ b. (ends_of draft.description.channels ++ begun_ends b) ++ end_says domains node) begins
            ∙ ap (λ f. (ends_of draft.description.channels ++ first_ended f) ++ end_says domains node) has
            ∙ ap (λ es. es ++ end_says domains node) (append-nil (ends_of draft.description.channels))
            ∙ ap (λ more. ends_of draft.description.channels ++ more) says);
        lines = sym
            (ap (λ b. (lines_of draft.description.channels ++ begun_lines b) ++ line_says node) begins
            ∙ ap (λ more. (lines_of draft.description.channels ++ begun.spot.line ∷ []) ++ more) (no_line _ is refl)
            ∙ append-nil (lines_of draft.description.channels ++ begun.spot.line ∷ []));
      })
  joined_step end begun (Some first) next is says begins has e =
      let one = parts _ _ _ e in
      let channel = joins domains begun.spot.line first end one.x (unflawed _ _ _ one.is) in
      let channels = draft.description.channels in
      subst (λ n. IsEnded node draft n) (same_ok {E = ElementFault} _ _ one.then)
      (record {
        ends = append-nil (ends_of (channels ++ one.x ∷ [])) ∙ ap (λ c. ends_of (channels ++ c ∷ [])) (sym channel)
            ∙ flat_map-append (λ (one : Channel). ended one.first ∷ ended one.second ∷ []) channels (channel_of domains begun.spot.line first end ∷ [])
            ∙ sym (append_assoc (ends_of channels) (ended first ∷ []) (ended end ∷ []))
            ∙ sym
            (ap (λ b. (ends_of channels ++ begun_ends b) ++ end_says domains node) begins
            ∙ ap (λ f. (ends_of channels ++ first_ended f) ++ end_says domains node) has
            ∙ ap (λ more. (ends_of channels ++ ended first ∷ []) ++ more) says);
        lines = append-nil (lines_of (channels ++ one.x ∷ [])) ∙ ap (λ c. lines_of (channels ++ c ∷ [])) (sym channel)
            ∙ map-append (λ (one : Channel). one.line) channels (channel_of domains begun.spot.line first end ∷ [])
            ∙ sym
            (ap (λ b. (lines_of channels ++ begun_lines b) ++ line_says node) begins
            ∙ ap (λ more. (lines_of channels ++ begun.spot.line ∷ []) ++ more) (no_line _ is refl)
            ∙ append-nil (lines_of channels ++ begun.spot.line ∷ []));
      })

  begun_step : (spot : Spot) (end : End) (begun : Option Begun) (next : Draft) → node.name ≡ codes "end"
      → end_says domains node ≡ ended end ∷ [] → draft.begun ≡ begun → end_begun spot end begun draft ≡ Ok next → IsEnded node draft next
  unfolding end_begun of_element
  begun_step spot end None next is says begins e = absurd cc
  begun_step spot end (Some begun) next is says begins e = joined_step end begun begun.first next is says begins refl e

  end_step : (spot : Spot) (next : Draft) → node.name ≡ codes "end" → end_at spot node draft ≡ Ok next → IsEnded node draft next
  unfolding end_at end_in end_domain
  end_step spot next is e =
      let one = parts _ _ _ e in
      let named = parts _ _ _ (unflawed _ _ _ one.is) in
      let same : named.x ≡ one.x = same_ok {E = Flaw} _ _ (parts _ _ _ named.then).then in
      begun_step spot (end_in one.x node) draft.begun next is
      (an_end one.x is (subst (λ d. domain_number domains (text_in node (codes "pd")) ≡ Ok d) same named.is)) refl one.then

  -- by the kind of the element
  pub ended_step : (outer k : Kind) (spot : Spot) (next : Draft) → spot.line ≡ node.line → IsWithin outer k node.name
      → channel_part_at k spot node draft ≡ Ok next → IsEnded node draft next
  unfolding channel_part_at IsWithin
  ended_step outer kind.Channel spot next line is e = channel_step spot next line is.1 e
  ended_step outer kind.End spot next line is e = end_step spot next is.1 e
  ended_step outer kind.Document spot next line is e = absurd is
  ended_step outer kind.System spot next line is e = beside _ next is.1 refl refl e
  ended_step outer kind.Region spot next line is e = beside _ next is.1 refl refl e
  ended_step outer kind.Domain spot next line is e = beside _ next is.1 refl refl e
  ended_step outer kind.Child spot next line is e = beside _ next is.1 refl refl e
  ended_step outer kind.Image spot next line is e = beside _ next is.1 refl refl e
  ended_step outer kind.Map spot next line is e = beside _ next is.1 refl refl e
  ended_step outer kind.MachineMap spot next line is e = beside _ next is.1 refl refl e
  ended_step outer kind.Interrupt spot next line is e = beside _ next is.1 refl refl e
  ended_step outer kind.Port spot next line is e = beside _ next is.1 refl refl e
  ended_step outer kind.Variable spot next line is e = beside _ next is.1 refl refl e
  ended_step outer kind.Machine spot next line is e = beside _ next is.1 refl refl e
  ended_step outer kind.Processor spot next line is e = beside _ next is.1 refl refl e
