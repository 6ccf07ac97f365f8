use Rattle.std.proofs.Common.{◌∙◌, ◌≡◌, IfSome, None, Some, ap, refl, rules, sym}
use Rattle.{clap.specs.Matches.{found_of, subcommand_name_of}, requests.specs.Meaning.verb_name, requests.specs.Found.IsAskedIn}
use Rattle.requests.proofs.reading.line_of.Goals as goal

pub returns-clause-meaning : goal.returns-clause-meaning
returns-clause-meaning c = by c.line.result refl where
  by : (line : _) → c.line.result ≡ line → IfSome line (λ line. IsAskedIn c.args.matches.now line)
  by None e = tt
  by (Some line) e = record {
    words = c.words_of.result;
    found = found_of c.in_ok-name.found.now;
    command =
        let named : subcommand_name_of c.args.matches.now ≡ Some c.in_ok-name.name.now =
        search (rules, c.subcommand.ensures.name, c.in_ok-name.was) in
        named ∙ ap Some (c.in_ok-from_name.ensures.found ∙ ap verb_name (sym c.words_of.ensures.command));
    rows = search (rules, c.subcommand.ensures.rows, c.in_ok-name.was);
    read = c.words_of.ensures.found;
    asks = sym c.line.ensures.meaning ∙ e;
  }
