use Rattle.std.proofs.Common.{refl, sym, subst, ◌∙◌}
use Rattle.q931_codec.specs.Grammar.{IsMessage}
use Rattle.q931_codec.specs.Outgoing.{outgoing_of, message_at_receiver}
use Rattle.q931_codec.proofs.EncodingFacts.{written_is, encoding_read}
use Rattle.q931_codec.proofs.encoding.write.Goals as goal

pub returns-clause-encoded : goal.returns-clause-encoded
returns-clause-encoded c =
    c.finish.ensures
    ∙ written_is (outgoing_of c.args.message.now) c.header.new.writer c.complete.new.writer c.element-5.new.writer c.header.ensures.octets c.complete.ensures.octets (
      c.element.new.writer,
      c.element.ensures.octets,
      (
        c.cause.new.writer,
        c.cause.ensures.octets,
        (
          c.octet.new.writer,
          c.octet.ensures.octets,
          (
            c.channel.new.writer,
            c.channel.ensures.octets,
            (
              c.progress.new.writer,
              c.progress.ensures.octets,
              (
                c.element-2.new.writer,
                c.element-2.ensures.octets,
                (
                  c.element-3.new.writer,
                  c.element-3.ensures.octets,
                  (
                    c.octet-2.new.writer,
                    c.octet-2.ensures.octets,
                    (
                      c.element-4.new.writer,
                      c.element-4.ensures.octets,
                      (c.element-5.new.writer, c.element-5.ensures.octets, refl),
                    ),
                  ),
                ),
              ),
            ),
          ),
        ),
      ),
    )

pub returns-clause-read_back : goal.returns-clause-read_back
returns-clause-read_back c =
    subst (λ octets. IsMessage octets (message_at_receiver (outgoing_of c.args.message.now))) (sym (returns-clause-encoded c)) (encoding_read (outgoing_of c.args.message.now) c.requires)
