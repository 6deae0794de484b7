use Rattle.std.proofs.Common.{rules, ◌≡◌}
use Rattle.mu_model.specs.Histories.{history, part}
use Rattle.mu_model.specs.Knowledge.{known}
use Rattle.mu_law.proofs.Lists.{known_lists_agree, list_chosen, list_in_session, list_marked_once, list_stands, rows_first, rows_right}
use Rattle.mu_law.proofs.knowing.known.Goals as goal

pub returns-in_err-values_known-clause-agree : goal.returns-in_err-values_known-clause-agree
returns-in_err-values_known-clause-agree c = known_lists_agree c.args.config.now c.args.events.now c.requires.legal

pub returns-clause-chosen : goal.returns-clause-chosen
returns-clause-chosen c =
    let is : c.from_vec.result ≡ known c.args.config.now c.args.r (part c.args.r (history c.args.events.now)) = search rules in
    list_chosen c.args.config.now c.args.events.now c.args.r c.from_vec.result c.requires.legal is

pub returns-clause-stand : goal.returns-clause-stand
returns-clause-stand c =
    let is : c.from_vec.result ≡ known c.args.config.now c.args.r (part c.args.r (history c.args.events.now)) = search rules in
    list_stands c.args.config.now c.args.events.now c.args.r c.from_vec.result c.requires.legal is

pub returns-clause-session : goal.returns-clause-session
returns-clause-session c =
    let is : c.from_vec.result ≡ known c.args.config.now c.args.r (part c.args.r (history c.args.events.now)) = search rules in
    list_in_session c.args.config.now c.args.events.now c.args.r c.from_vec.result c.requires.legal is c.requires.config

pub returns-clause-marks : goal.returns-clause-marks
returns-clause-marks c =
    let is : c.from_vec.result ≡ known c.args.config.now c.args.r (part c.args.r (history c.args.events.now)) = search rules in
    list_marked_once c.args.config.now c.args.events.now c.args.r c.from_vec.result c.requires.legal is c.requires.config

pub returns-clause-agree : goal.returns-clause-agree
returns-clause-agree c = known_lists_agree c.args.config.now c.args.events.now c.requires.legal

pub returns-in_err-values_known-clause-written : goal.returns-in_err-values_known-clause-written
returns-in_err-values_known-clause-written c = rows_first c.args.config.now c.args.events.now c.requires.config c.requires.legal

pub returns-clause-written : goal.returns-clause-written
returns-clause-written c = rows_first c.args.config.now c.args.events.now c.requires.config c.requires.legal

pub returns-in_err-values_known-clause-read : goal.returns-in_err-values_known-clause-read
returns-in_err-values_known-clause-read c = rows_right c.args.config.now c.args.events.now c.requires.config c.requires.legal

pub returns-clause-read : goal.returns-clause-read
returns-clause-read c = rows_right c.args.config.now c.args.events.now c.requires.config c.requires.legal
