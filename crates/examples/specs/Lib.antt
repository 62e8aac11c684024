pub mod Mails
