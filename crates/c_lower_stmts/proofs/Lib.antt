mod Ends
mod Payloads
